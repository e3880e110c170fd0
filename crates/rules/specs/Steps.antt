-- What the contracts of internal functions say. No reader of the public promise needs this file.
use Rattle.std.specs.Prelude.{cond, ◌&&◌, List, ◌∷◌, ◌≡◌, ℕ, zero, suc, ◌+◌, eqb}
use Rattle.std.proofs.Math.Option.{Option}
use Rattle.privileges.specs.Sets.{has, union, insert, remove, subset}
use Rattle.program.specs.Layout.{Types}
use Rattle.program.specs.declared.records.TermRecord.{TermRecord}
use Rattle.program.specs.declared.records.TypeRecord.{TypeRecord}
use Rattle.typing.specs.Subtyping.{subtype, wider}
use Rattle.typing.specs.Rules.{lookup_type, post_needs}
use Rattle.typing.specs.Checking.{Judgement, typed, ◌next◌, require, variable_type, joined}
use Rattle.rules.specs.Inference.{context}
use Rattle.rules.specs.declared.bindings.Bindings.{Bindings}

-- ---- bindings
pub record Pushed (b : Bindings) (ty : ℕ) (r : Bindings) : Type 0 where
  pub context_is : context r ≡ ty ∷ context b
  pub len_is : r.len ≡ b.len + 1

-- ---- a term's judgement from that of its last child, the earlier ones being typed
abbrev pub leaf_by : (kind : ℕ) → Judgement → Judgement
leaf_by zero v = typed 0 0
leaf_by (suc zero) v = typed 1 0
leaf_by (suc (suc k)) v = v

unfoldable pub leaf_step : TermRecord → (at : ℕ) → List ℕ → Judgement
leaf_step x at Γ = leaf_by x.kind (variable_type at (lookup_type Γ x.first))

unfoldable pub check_step : (p : ℕ) → Judgement → Judgement
check_step p j = j next λ τ N. typed τ (insert p N)

unfoldable pub enable_step : (authorised p : ℕ) → Judgement → Judgement
enable_step authorised p j = j next λ τ N. typed τ (cond (has p authorised) (remove p N) N)

unfoldable pub sign_step : (authorised at : ℕ) → Judgement → Judgement
sign_step authorised at j = j next λ τ N. require (subset N authorised) 11 at (typed τ N)

unfoldable pub post_step : (guard : Option ℕ) (at : ℕ) → Judgement → Judgement
post_step g at j = j next λ τ N. require (eqb τ 1) 10 at (typed 1 (post_needs g N))

unfoldable pub test_step : Types → (p at τ N : ℕ) → Judgement → Judgement
test_step T p at τ N j = j next λ ρ M. joined at (wider T τ ρ) (union (remove p N) M)

unfoldable pub if_step : Types → (at σ N τ M : ℕ) → Judgement → Judgement
if_step T at σ N τ M j = j next λ ρ K. require (eqb σ 0) 10 at (joined at (wider T τ ρ) (union N (union M K)))

unfoldable pub binary_step : (result at τ N : ℕ) → Judgement → Judgement
binary_step σ at τ N j = j next λ ρ M. require (eqb τ 1 && eqb ρ 1) 10 at (typed σ (union N M))

unfoldable pub body_step : TypeRecord → (at τ N : ℕ) → Judgement → Judgement
body_step f at τ N j = require (eqb τ f.res) 10 at (require (subset N f.latent) 12 at j)

unfoldable pub function_step : TypeRecord → (ty at : ℕ) → Judgement → Judgement
function_step f ty at j = j next λ τ N. body_step f at τ N (typed ty 0)

unfoldable pub letrec_step : TypeRecord → (at τ N : ℕ) → Judgement → Judgement
letrec_step f at τ N j = j next λ ρ M. body_step f at τ N (typed ρ (union f.latent M))

unfoldable pub call_step : Types → (at φ N : ℕ) → Judgement → Judgement
call_step T at φ N j = j next λ α M.
    require (T.is_fun φ) 24 at (require (subtype T α (T.arg φ)) 25 at (typed (T.res φ) (union (T.latent φ) (union N M))))

-- the result of a sum (kind 11), a difference (12) or a less (13)
unfoldable pub binary_result : (kind : ℕ) → ℕ
binary_result k = cond (eqb k 13) 0 1
