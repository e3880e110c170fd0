-- Which terms are causes, from the term's record. Of a call that needs a privilege the function part is typed, with a function type. Assumes nothing.
use mathlib.Core.Bool.{Bool, true, false, false≢true}
use mathlib.Core.List.{List}
use mathlib.Core.Path.{◌≡◌, refl, sym, ap, ◌∙◌}
use Prim.Native.Nat.{ℕ, ◌<◌}
use native.Mathlib.Omega.{arith}
use lib.Dec.{eqb}
use Rattle.std.specs.Prelude.{Result, Ok, Err}
use Rattle.privileges.specs.Sets.{privilege_count, has}
use Rattle.program.specs.Layout.{Types, authority, types_of, guard_in}
use Rattle.program.specs.Terms.{Term, tree, contains}
use Rattle.program.specs.Records.{term_record, type_record, guard_record}
use Rattle.program.proofs.Laws.Guards.{guard_contains}
use Rattle.program.specs.declared.records.Counts.{Counts}
use Rattle.program.specs.declared.records.TermRecord.{TermRecord}
use Rattle.program.specs.declared.records.TypeRecord.{TypeRecord}
use Rattle.typing.specs.Checking.{Judgement, typed, fault}
use Rattle.typing.specs.declared.answer.Fault.{Fault}
use Rattle.typing.specs.declared.answer.Typed.{Typed}
use Rattle.accessors.specs.Internal.{FormedSheet}
use Rattle.subtyping.specs.Laws.Records.{type_parts}
use Rattle.typing.specs.Verdicts.{term_judgement}
use Rattle.rules.specs.Inference.{inferred_model, context, Ready}
use Rattle.rules.specs.Steps.{call_step}
use Rattle.rules.specs.declared.bindings.Bindings.{Bindings}
use Rattle.checker.proofs.TermLaws.{post_guard, call_is, call_stops}
use Rattle.typing.specs.Places.{placed}
use Rattle.chains.specs.Explaining.{needing, in_latent, needs, is_cause}
use Rattle.places.proofs.PlaceLaws.{◌and◌, all, among, at_record, most, term_of, tree_is}

-- the latent set of a function type is that of its record
pub latent_is : {s : List ℕ} {c : Counts} (S : FormedSheet s c) (p ty : ℕ) → (types_of s).is_fun ty ≡ true → {f : TypeRecord}
    → f ≡ type_record s c ty → {r : Bool}
    → r ≡ has p f.latent → r ≡ has p ((types_of s).latent ty)
latent_is S p ty h q g = g ∙ ap (has p) (type_parts S ty h q).latent_is

-- a call with needs has passed the test of its function part
call_function : (T : Types) (p at φ N : ℕ) (j : Judgement) → needing p (call_step T at φ N j) ≡ true → T.is_fun φ ≡ true
unfolding call_step
call_function T p at φ N (fault c a) h = absurd (false≢true h)
call_function T p at φ N (typed α M) h = tested (T.is_fun φ) refl
  where
    tested : (z : Bool) → T.is_fun φ ≡ z → T.is_fun φ ≡ true
    tested true e = e
    tested false e = absurd (false≢true (rw e at h))

module _ {s : List ℕ} {c : Counts} {t : ℕ} {b : Bindings} {n : ℕ} (R : Ready s c t b n) {x : TermRecord} (h : x ≡ term_record s c t) (p : ℕ) where
  abbrev cause : Term → Bool
  cause z = is_cause (types_of s) (authority s) p (placed (context b) n z)

  pub letrec_cause : x.kind ≡ 4 → {r : Bool} → r ≡ has p ((types_of s).latent x.first) → r ≡ cause (tree s t)
  unfolding is_cause
  letrec_cause e q = q ∙ ap cause (sym (tree_is R h e))

  pub check_cause : x.kind ≡ 7 → eqb x.small p ≡ cause (tree s t)
  unfolding is_cause
  check_cause e = ap cause (sym (tree_is R h e))

  pub post_cause : x.kind ≡ 14 → p < privilege_count → {g : ℕ} → g ≡ guard_record s c x.small → eqb g p ≡ cause (tree s t)
  unfolding is_cause
  post_cause e l {g} q =
      guard_contains p g l ∙ ap (λ (g : ℕ). contains p (guard_in g)) (post_guard (at_record R h) e q) ∙ ap cause (sym (tree_is R h e))

  module _ (e : x.kind ≡ 5) (j : Result Typed Fault) (q : inferred_model j ≡ term_judgement s (context b) n x.first) where
    call_cause : in_latent (types_of s) p (inferred_model j) ≡ cause (tree s t)
    unfolding is_cause term_judgement
    call_cause = ap (in_latent (types_of s) p) q ∙ ap cause (sym (tree_is R h e))

    pub part_typed : needs (types_of s) (authority s) p (placed (context b) n (tree s t)) ≡ true → {a : Fault} → j ≡ Err a → ⊥
    unfolding needs term_judgement
    part_typed f g = false≢true (ap (needing p) (call_stops (at_record R h) (context b) e q g refl) ∙ f)

    module _ {y : Typed} (g : j ≡ Ok y) where
      pub call_typed : {r : Bool} → r ≡ has p ((types_of s).latent y.ty) → r ≡ cause (tree s t)
      call_typed f = f ∙ ap (λ (j : Result Typed Fault). in_latent (types_of s) p (inferred_model j)) (sym g) ∙ call_cause

      pub part_function : needs (types_of s) (authority s) p (placed (context b) n (tree s t)) ≡ true → (types_of s).is_fun y.ty ≡ true
      unfolding needs term_judgement
      part_function f = call_function (types_of s) p t y.ty y.needs (term_judgement s (context b) n x.second)
          (ap (needing p) (call_is (at_record R h) (context b) e q g refl refl) ∙ f)

  other : {k : ℕ} → false ≡ cause (term_of R h k) → x.kind ≡ k → false ≡ cause (tree s t)
  other q e = q ∙ ap cause (sym (tree_is R h e))

  pub no_cause : ((term_record s c t).kind ≡ 5 → ⊥) → (x.kind ≡ 4 → ⊥) → (x.kind ≡ 7 → ⊥) → (x.kind ≡ 14 → ⊥) → false ≡ cause (tree s t)
  unfolding is_cause
  no_cause n5 n4 n7 n14 = among {P = λ k. x.kind ≡ k → false ≡ cause (tree s t)} {m = 0} {n = 15}
      (other refl and other refl and other refl and other refl and (λ e. absurd (n4 e))
      and (λ e. absurd (n5 (ap (λ (x : TermRecord). x.kind) (sym h) ∙ e))) and other refl and (λ e. absurd (n7 e))
      and other refl and other refl and other refl and other refl and other refl and other refl and (λ e. absurd (n14 e)) and all)
      x.kind (omega arith) (omega (arith, most R h)) refl
