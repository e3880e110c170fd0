-- The term with a number in a term: that one itself, or the first that is found in its children, by their position. Assumes nothing.
use mathlib.Core.Bool.{Bool, true, false, cond, true≢false}
use mathlib.Core.List.{List, ◌∷◌, ◌++◌}
use mathlib.Core.Option.{Option, none, some}
use mathlib.Core.Path.{◌≡◌, refl, sym, ap, ◌∙◌}
use Prim.Native.Nat.{ℕ, ◌<◌}
use lib.Dec.{eqb}
use borrow.Author.Tests.{eq-eqb, ne_eqb}
use Rattle.program.specs.Layout.{Types, types_of}
use Rattle.program.specs.Terms.{Term, boolean, number, variable, function, letrec, call, if, check, enable, sign, test, binary, post, tree}
use Rattle.program.specs.declared.records.Counts.{Counts}
use Rattle.typing.specs.Places.{Placed, placed, number_of}
use Rattle.typing.proofs.Laws.Places.{tree_number}
use Rattle.rules.specs.Inference.{context}
use Rattle.places.specs.Internal.{placed_at, ReadyPlace, children_of, children_at, Child, child_at, Reached}
use Rattle.places.specs.declared.Place.{Place}
use Rattle.std.specs.Prelude.{Some, None, is_some}
use Rattle.subterms.specs.Smallest.{subterms}
use Rattle.subterms.specs.Judging.{with_number}
use Rattle.subterms.proofs.Laws.Subterms.{subterms_in}
use Rattle.subterms.proofs.Laws.Numbers.{first_of, first_of_none, first_of_assoc, number_append, number_above}
use Rattle.judging.specs.Internal.{FoundAs}

-- ---- a term and its children by their position
module _ (T : Types) (t : ℕ) where
  abbrev in_child : Option Placed → Option Placed
  in_child o = with_number t (subterms_in T o)

  abbrev below : (Γ : List ℕ) (n : ℕ) → Term → Option Placed
  below Γ n c = first_of (in_child (children_of T (placed Γ n c)).first)
      (first_of (in_child (children_of T (placed Γ n c)).second) (in_child (children_of T (placed Γ n c)).third))

  own_or : (x : Placed) (at : ℕ) {o p : Option Placed} → o ≡ p → cond (eqb at t) (some x) o ≡ cond (eqb at t) (some x) p
  own_or x at e = ap (cond (eqb at t) (some x)) e

  -- one child, at the first or the second position, two, or three
  alone : (l : List Placed) → with_number t l ≡ first_of (with_number t l) none
  alone l = sym (first_of_none (with_number t l))

  both : (l m : List Placed) → with_number t (l ++ m) ≡ first_of (with_number t l) (first_of (with_number t m) none)
  both l m = number_append t l m ∙ ap (first_of (with_number t l)) (alone m)

  three : (l m k : List Placed) → with_number t (l ++ m ++ k) ≡ first_of (with_number t l) (first_of (with_number t m) (with_number t k))
  three l m k =
      number_append t (l ++ m) k ∙ ap (λ (o : Option Placed). first_of o (with_number t k)) (number_append t l m)
      ∙ first_of_assoc (with_number t l) (with_number t m) (with_number t k)

  number_in : (Γ : List ℕ) (n : ℕ) (c : Term) → with_number t (subterms T Γ n c) ≡ cond (eqb (number_of c) t) (some (placed Γ n c)) (below Γ n c)
  unfolding with_number
  number_in Γ n (boolean at b) = refl
  number_in Γ n (number at k) = refl
  number_in Γ n (variable at i) = refl
  number_in Γ n (function at ty body) = own_or (placed Γ n (function at ty body)) at (alone (subterms T (T.arg ty ∷ Γ) n body))
  number_in Γ n (letrec at ty body rest) =
      own_or (placed Γ n (letrec at ty body rest)) at (number_append t (subterms T (T.arg ty ∷ ty ∷ Γ) n body) (subterms T (ty ∷ Γ) n rest))
  number_in Γ n (call at f a) = own_or (placed Γ n (call at f a)) at (both (subterms T Γ n f) (subterms T Γ n a))
  number_in Γ n (if at c y o) = own_or (placed Γ n (if at c y o)) at (three (subterms T Γ n c) (subterms T Γ n y) (subterms T Γ n o))
  number_in Γ n (check at p c) = own_or (placed Γ n (check at p c)) at (alone (subterms T Γ n c))
  number_in Γ n (enable at p c) = own_or (placed Γ n (enable at p c)) at (alone (subterms T Γ n c))
  number_in Γ n (sign at m c) = own_or (placed Γ n (sign at m c)) at (alone (subterms T Γ m c))
  number_in Γ n (test at p y o) = own_or (placed Γ n (test at p y o)) at (both (subterms T Γ n y) (subterms T Γ n o))
  number_in Γ n (binary at op a b) = own_or (placed Γ n (binary at op a b)) at (both (subterms T Γ n a) (subterms T Γ n b))
  number_in Γ n (post at ch g c) = own_or (placed Γ n (post at ch g c)) at (alone (subterms T Γ n c))

-- ---- a child that is not there
pub nothing_found : (s : List ℕ) {c : Counts} (t : ℕ) → FoundAs s c t none None
unfolding with_number
nothing_found s t = record { is = refl; ready = tt }

first_there : (s : List ℕ) (i : Child) (x : Option Placed) → is_some i ≡ true → child_at s i ≡ first_of (child_at s i) x
first_there s None x p = absurd (true≢false (sym p))
first_there s (Some i) x p = refl

first_absent : (s : List ℕ) (i : Child) (x : Option Placed) → is_some i ≡ false → x ≡ first_of (child_at s i) x
first_absent s None x p = refl
first_absent s (Some i) x p = absurd (true≢false p)

-- what is found in a child
from : {s : List ℕ} {c : Counts} {t k : ℕ} {z i : Child} {due : Option Placed} → Reached s c k z due → FoundAs s c t (child_at s z) i
    → child_at s i ≡ with_number t (subterms_in (types_of s) due)
from {s} {t = t} r f = f.is ∙ ap (λ (o : Option Placed). with_number t (subterms_in (types_of s) o)) r.is

-- ---- a term that is there
module _ (s : List ℕ) (t : ℕ) (y : Place) where
  abbrev Γ : List ℕ
  Γ = context y.bindings

  abbrev n : ℕ
  n = y.principal

  abbrev here : Term
  here = tree s y.term

  abbrev there : Option Placed
  there = some (placed_at s y)

  number_is : (b : Bool) → eqb y.term t ≡ b → with_number t (subterms_in (types_of s) there) ≡ cond b there (below (types_of s) t Γ n here)
  number_is b q =
      number_in (types_of s) t Γ n here
      ∙ λ i. cond ((ap (λ (k : ℕ). eqb k t) (tree_number s y.term) ∙ q) i) there (below (types_of s) t Γ n here)

  -- what is sought has a higher number
  pub found_above : {c : Counts} → ReadyPlace s c y → y.term < t → FoundAs s c t there None
  found_above h l = record { is = sym (number_above s h.sheet.well_formed Γ n y.term t h.inside l); ready = tt }

  pub found_here : {c : Counts} → ReadyPlace s c y → y.term ≡ t → FoundAs s c t there (Some y)
  found_here h q = record { is = sym (number_is true (eq-eqb y.term t q)); ready = h }

  module _ (other : y.term ≡ t → ⊥) where
    below_is : with_number t (subterms_in (types_of s) there) ≡ below (types_of s) t Γ n here
    below_is = number_is false (ne_eqb y.term t other)

    abbrev third : Option Placed
    third = in_child (types_of s) t (children_at s y).third

    abbrev second_or_third : Option Placed
    second_or_third = first_of (in_child (types_of s) t (children_at s y).second) third

    module _ {c : Counts} {z₁ i : Child} (r₁ : Reached s c y.term z₁ (children_at s y).first) (f₁ : FoundAs s c t (child_at s z₁) i) where
      pub found_first : is_some i ≡ true → FoundAs s c t there i
      found_first p = record { is = first_there s i second_or_third p ∙ (λ k. first_of (from r₁ f₁ k) second_or_third) ∙ sym below_is; ready = f₁.ready }

      module _ (absent₁ : is_some i ≡ false) {z₂ j : Child} (r₂ : Reached s c y.term z₂ (children_at s y).second)
          (f₂ : FoundAs s c t (child_at s z₂) j) where
        pub found_second : is_some j ≡ true → FoundAs s c t there j
        found_second p = record {
          is = first_there s j third p ∙ first_absent s i (first_of (child_at s j) third) absent₁
              ∙ (λ k. first_of (from r₁ f₁ k) (first_of (from r₂ f₂ k) third))
              ∙ sym below_is;
          ready = f₂.ready;
        }

        pub found_third : is_some j ≡ false → {z₃ k : Child} → Reached s c y.term z₃ (children_at s y).third
            → FoundAs s c t (child_at s z₃) k → FoundAs s c t there k
        found_third absent₂ {k = k} r₃ f₃ = record {
          is = first_absent s j (child_at s k) absent₂ ∙ first_absent s i _ absent₁
              ∙ (λ q. first_of (from r₁ f₁ q) (first_of (from r₂ f₂ q) (from r₃ f₃ q)))
              ∙ sym below_is;
          ready = f₃.ready;
        }
