-- The rules as an algorithm: the type and least needs of a term, or its first fault, 9 to 12 and 24 to 26.
-- 01, "Who can cause which refusal": "Children are judged in the order first, second, third, then the term; 10 before 12".
use Rattle.std.specs.Prelude.{Bool, true, false, ◌&&◌, List, ◌∷◌, ℕ, eqb}
use Rattle.std.proofs.Math.Option.{Option, none, some}
use Rattle.privileges.specs.Sets.{union, insert, remove, subset}
use Rattle.program.specs.Layout.{Types}
use Rattle.program.specs.Terms.{Term, boolean, number, variable, function, letrec, call, if, check, enable, sign, test, binary, post}
use Rattle.typing.specs.Subtyping.{subtype, wider}
use Rattle.typing.specs.Rules.{lookup_type, remove_authorised, post_needs, result_type}

pub data Judgement : Type 0 where
  typed : (type needs : ℕ) → Judgement
  fault : (cause at : ℕ) → Judgement

-- a child first, and then what depends on its type and needs
infixl 20 ◌next◌
abbrev pub ◌next◌ : Judgement → (ℕ → ℕ → Judgement) → Judgement
◌next◌ (typed τ N) k = k τ N
◌next◌ (fault c at) k = fault c at

-- a test that a term has to pass
abbrev pub require : Bool → (cause at : ℕ) → Judgement → Judgement
require true c at j = j
require false c at j = fault c at

-- "9 variable past the bindings"
abbrev pub variable_type : (at : ℕ) → Option ℕ → Judgement
variable_type at (some τ) = typed τ 0
variable_type at none = fault 9 at

-- two branches, from the wider of their types: "a fitting pair of branches is no longer a fault" (02, W4), and "branches of which neither fits the
-- other" are 26 (W5)
abbrev pub joined : (at : ℕ) → Option ℕ → (needs : ℕ) → Judgement
joined at (some τ) N = typed τ N
joined at none N = fault 26 at

module _ (T : Types) (A : ℕ → ℕ) where
  -- the tests of a function's body: "10 type", "12 needs of a body"
  abbrev pub body_fits : (at ty τ N : ℕ) → Judgement → Judgement
  body_fits at ty τ N j = require (eqb τ (T.res ty)) 10 at (require (subset N (T.latent ty)) 12 at j)

  unfoldable pub infer : (Γ : List ℕ) (n : ℕ) → Term → Judgement
  infer Γ n (boolean at b) = typed 0 0
  infer Γ n (number at k) = typed 1 0
  infer Γ n (variable at i) = variable_type at (lookup_type Γ i)
  infer Γ n (function at ty body) = infer (T.arg ty ∷ Γ) n body next λ τ N. body_fits at ty τ N (typed ty 0)
  infer Γ n (letrec at ty body rest) = infer (T.arg ty ∷ ty ∷ Γ) n body next λ τ N. infer (ty ∷ Γ) n rest next λ ρ M.
      body_fits at ty τ N (typed ρ (union (T.latent ty) M))
  -- 02, W5: "A call whose function part isn't a function, an argument that doesn't fit …: 24, 25"; "at one call 24 goes before 25"
  infer Γ n (call at f a) = infer Γ n f next λ φ N. infer Γ n a next λ α M.
      require (T.is_fun φ) 24 at (require (subtype T α (T.arg φ)) 25 at (typed (T.res φ) (union (T.latent φ) (union N M))))
  -- "at one if 10 before 26"
  infer Γ n (if at c y o) = infer Γ n c next λ σ N. infer Γ n y next λ τ M. infer Γ n o next λ ρ K.
      require (eqb σ 0) 10 at (joined at (wider T τ ρ) (union N (union M K)))
  infer Γ n (check at p c) = infer Γ n c next λ τ N. typed τ (insert p N)
  infer Γ n (enable at p c) = infer Γ n c next λ τ N. typed τ (remove_authorised A n p N)
  -- "11 needs of a sign"
  infer Γ n (sign at m c) = infer Γ m c next λ τ N. require (subset N (A m)) 11 at (typed τ N)
  -- 02, W1: "a test of p takes p out of the needs of its yes-branch before the union"
  infer Γ n (test at p y o) = infer Γ n y next λ τ N. infer Γ n o next λ ρ M. joined at (wider T τ ρ) (union (remove p N) M)
  infer Γ n (binary at op a b) = infer Γ n a next λ τ N. infer Γ n b next λ ρ M.
      require (eqb τ 1 && eqb ρ 1) 10 at (typed (result_type op) (union N M))
  -- 02, W8: "A guarded post adds its privilege to the needs"
  infer Γ n (post at ch g c) = infer Γ n c next λ τ N. require (eqb τ 1) 10 at (typed 1 (post_needs g N))
