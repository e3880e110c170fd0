-- What is found of a term from what is found of its children: the counts add up, and the smallest refused term is one of theirs or, where they have none, the
-- term itself. Assumes nothing.
use mathlib.Core.List.{List, ◌∷◌, ◌++◌}
use mathlib.Core.Logic.{⊎_elim}
use mathlib.Core.Option.{Option, none, some, none-ne-some}
use mathlib.Core.Path.{◌≡◌, refl, sym, ap, ◌∙◌, subst}
use Prim.Native.Nat.{ℕ, ◌+◌, ◌<◌, ◌≤◌}
use native.Mathlib.Omega.{arith}
use Rattle.std.specs.Prelude.{Result, Ok}
use Rattle.program.specs.Limits.{max_terms}
use Rattle.program.specs.Layout.{Types, authority, types_of}
use Rattle.program.specs.Terms.{Term, boolean, number, variable, function, letrec, call, if, check, enable, sign, test, binary, post, tree, size}
use Rattle.program.specs.declared.records.Counts.{Counts}
use Rattle.program.proofs.Laws.Sizes.{size_most}
use Rattle.typing.specs.Places.{Placed, placed, number_of}
use Rattle.typing.proofs.Laws.Places.{tree_number}
use Rattle.typing.specs.Checking.{Judgement, typed, fault, infer}
use Rattle.typing.specs.declared.answer.Fault.{Fault}
use Rattle.typing.specs.declared.answer.Typed.{Typed}
use Rattle.subtyping.specs.Known.{Known, Answered}
use Rattle.typing.specs.Verdicts.{term_judgement}
use Rattle.rules.specs.Inference.{inferred_model, context}
use Rattle.places.specs.Internal.{placed_at, ReadyPlace, children_of, children_at, Child, child_at, Reached}
use Rattle.places.specs.declared.Place.{Place}
use Rattle.subterms.specs.Smallest.{subterms, FaultyTerm, faulty_as, smaller, faulty_at, smallest_of}
use Rattle.subterms.proofs.Laws.Subterms.{subterms_in}
use Rattle.subterms.proofs.Laws.Order.{smaller_one, smaller_none, passed, smallest_append}
use Rattle.subterms.proofs.Laws.Pieces.{listed_count}
use Rattle.smallest.specs.Internal.{or_own, place_judgement, Judgeable, size_in, VisitedAs, CombinedFrom}
use Rattle.std.specs.Prelude.{None}
use Rattle.smallest.specs.declared.visit.Visited.{Visited}

-- ---- a term and its children by their position
module _ (T : Types) where
  pub size_is : (Γ : List ℕ) (n : ℕ) (c : Term)
      → size c ≡ 1 + size_in (children_of T (placed Γ n c)).first + size_in (children_of T (placed Γ n c)).second + size_in (children_of T (placed Γ n c)).third
  size_is Γ n (boolean at b) = refl
  size_is Γ n (number at k) = refl
  size_is Γ n (variable at i) = refl
  size_is Γ n (function at ty body) = omega arith
  size_is Γ n (letrec at ty body rest) = omega arith
  size_is Γ n (call at f a) = omega arith
  size_is Γ n (if at c y o) = omega arith
  size_is Γ n (check at p c) = omega arith
  size_is Γ n (enable at p c) = omega arith
  size_is Γ n (sign at m c) = omega arith
  size_is Γ n (test at p y o) = omega arith
  size_is Γ n (binary at op a b) = omega arith
  size_is Γ n (post at ch g c) = omega arith

module _ (T : Types) (A : ℕ → ℕ) where
  abbrev smallest_in : Option Placed → Option FaultyTerm
  smallest_in o = smallest_of T A (subterms_in T o)

  abbrev below : (Γ : List ℕ) (n : ℕ) → Term → Option FaultyTerm
  below Γ n c = smaller (smaller (smallest_in (children_of T (placed Γ n c)).first) (smallest_in (children_of T (placed Γ n c)).second))
      (smallest_in (children_of T (placed Γ n c)).third)

  -- one child, at the first or the second position, two, or three
  alone : (l : List Placed) → smallest_of T A l ≡ smaller (smaller (smallest_of T A l) none) none
  alone l = sym (ap (λ (o : Option FaultyTerm). smaller o none) (smaller_none (smallest_of T A l)) ∙ smaller_none (smallest_of T A l))

  both : (l m : List Placed) → smallest_of T A (l ++ m) ≡ smaller (smaller (smallest_of T A l) (smallest_of T A m)) none
  both l m = smallest_append T A l m ∙ sym (smaller_none (smaller (smallest_of T A l) (smallest_of T A m)))

  three : (l m k : List Placed) → smallest_of T A (l ++ m ++ k) ≡ smaller (smaller (smallest_of T A l) (smallest_of T A m)) (smallest_of T A k)
  three l m k = smallest_append T A (l ++ m) k ∙ ap (λ (o : Option FaultyTerm). smaller o (smallest_of T A k)) (smallest_append T A l m)

  own_then : (x : Placed) {o p : Option FaultyTerm} → o ≡ p → smaller (faulty_at T A x) o ≡ smaller (faulty_at T A x) p
  own_then x e = ap (smaller (faulty_at T A x)) e

  below_is : (Γ : List ℕ) (n : ℕ) (c : Term) → smallest_of T A (subterms T Γ n c) ≡ smaller (faulty_at T A (placed Γ n c)) (below Γ n c)
  unfolding smallest_of
  below_is Γ n (boolean at b) = refl
  below_is Γ n (number at k) = refl
  below_is Γ n (variable at i) = refl
  below_is Γ n (function at ty body) = own_then (placed Γ n (function at ty body)) (sym (smaller_none (smallest_of T A (subterms T (T.arg ty ∷ Γ) n body))))
  below_is Γ n (letrec at ty body rest) =
      own_then (placed Γ n (letrec at ty body rest)) (smallest_append T A (subterms T (T.arg ty ∷ ty ∷ Γ) n body) (subterms T (ty ∷ Γ) n rest))
  below_is Γ n (call at f a) = own_then (placed Γ n (call at f a)) (both (subterms T Γ n f) (subterms T Γ n a))
  below_is Γ n (if at c y o) = own_then (placed Γ n (if at c y o)) (three (subterms T Γ n c) (subterms T Γ n y) (subterms T Γ n o))
  below_is Γ n (check at p c) = own_then (placed Γ n (check at p c)) (alone (subterms T Γ n c))
  below_is Γ n (enable at p c) = own_then (placed Γ n (enable at p c)) (alone (subterms T Γ n c))
  below_is Γ n (sign at m c) = own_then (placed Γ n (sign at m c)) (alone (subterms T Γ m c))
  below_is Γ n (test at p y o) = own_then (placed Γ n (test at p y o)) (both (subterms T Γ n y) (subterms T Γ n o))
  below_is Γ n (binary at op a b) = own_then (placed Γ n (binary at op a b)) (both (subterms T Γ n a) (subterms T Γ n b))
  below_is Γ n (post at ch g c) = own_then (placed Γ n (post at ch g c)) (alone (subterms T Γ n c))

  -- what is refused below a term has fewer terms in it
  count_in : (o : Option Placed) (y : FaultyTerm) → smallest_in o ≡ some y → y.count ≤ size_in o
  unfolding smallest_of
  count_in none y e = absurd (none-ne-some y e)
  count_in (some (placed Γ n c)) y e = listed_count T A Γ n c e

  below_fewer : (Γ : List ℕ) (n : ℕ) (c : Term) (y : FaultyTerm) → below Γ n c ≡ some y → y.count < size c
  below_fewer Γ n c y e =
      ⊎_elim
      (λ f. ⊎_elim (λ g. omega (arith, size_is T Γ n c, count_in (children_of T (placed Γ n c)).first y g))
      (λ g. omega (arith, size_is T Γ n c, count_in (children_of T (placed Γ n c)).second y g))
      (smaller_one (smallest_in (children_of T (placed Γ n c)).first) (smallest_in (children_of T (placed Γ n c)).second) y f))
      (λ f. omega (arith, size_is T Γ n c, count_in (children_of T (placed Γ n c)).third y f))
      (smaller_one (smaller (smallest_in (children_of T (placed Γ n c)).first) (smallest_in (children_of T (placed Γ n c)).second))
      (smallest_in (children_of T (placed Γ n c)).third) y e)

  -- so the term itself counts only where none is
  or_own_lem : (c : Term) (j : Judgement) (o : Option FaultyTerm) → ((y : FaultyTerm) → o ≡ some y → y.count < size c)
      → smaller (faulty_as (number_of c) (size c) j) o ≡ or_own o (faulty_as (number_of c) (size c) j)
  or_own_lem c (typed τ N) none h = refl
  or_own_lem c (typed τ N) (some y) h = refl
  or_own_lem c (fault cause at) none h = refl
  or_own_lem c (fault cause at) (some y) h = passed _ y (h y refl)

  smallest_is : (Γ : List ℕ) (n : ℕ) (c : Term) → smallest_of T A (subterms T Γ n c) ≡ or_own (below Γ n c) (faulty_as (number_of c) (size c) (infer T A Γ n c))
  unfolding faulty_at
  smallest_is Γ n c = below_is Γ n c ∙ or_own_lem c (infer T A Γ n c) (below Γ n c) (λ y e. below_fewer Γ n c y e)

refused_own : (c : Term) (t n : ℕ) (j : Judgement) → number_of c ≡ t → size c ≡ n → faulty_as (number_of c) (size c) j ≡ faulty_as t n j
refused_own c t n j e f = λ i. faulty_as (e i) (f i) j

-- ---- no child
pub nothing_found : (s : List ℕ) {l : List ℕ} → Known (types_of s) l
    → VisitedAs s none (record { judged = Ok (record { ty = 0; needs = 0 }); count = 0; smallest = None }) l
unfolding smallest_of
nothing_found s k = record { judged = tt; count_is = refl; smallest_is = refl; known = k }

-- ---- a term, from its children
module _ {s : List ℕ} {c : Counts} {at : Place} (R : ReadyPlace s c at) {i j k : Visited} {l l' l'' : List ℕ}
    {y₁ y₂ y₃ : Child} (r₁ : Reached s c at.term y₁ (children_at s at).first) (r₂ : Reached s c at.term y₂ (children_at s at).second)
    (r₃ : Reached s c at.term y₃ (children_at s at).third) (v₁ : VisitedAs s (child_at s y₁) i l) (v₂ : VisitedAs s (child_at s y₂) j l')
    (v₃ : VisitedAs s (child_at s y₃) k l'') where
  abbrev at_first : VisitedAs s (children_at s at).first i l
  at_first = subst (λ (o : Option Placed). VisitedAs s o i l) r₁.is v₁

  abbrev at_second : VisitedAs s (children_at s at).second j l'
  at_second = subst (λ (o : Option Placed). VisitedAs s o j l') r₂.is v₂

  abbrev at_third : VisitedAs s (children_at s at).third k l''
  at_third = subst (λ (o : Option Placed). VisitedAs s o k l'') r₃.is v₃

  pub judgeable : Judgeable s c l'' at i.judged j.judged k.judged
  judgeable = record { ready = R; known = v₃.known; first = at_first.judged; second = at_second.judged; third = at_third.judged }

  counts_are : 1 + i.count + j.count + k.count ≡ size (tree s at.term)
  counts_are = omega (
    arith,
    at_first.count_is,
    at_second.count_is,
    at_third.count_is,
    size_is (types_of s) (context at.bindings) at.principal (tree s at.term),
  )

  pub counts_fit : 1 + i.count + j.count + k.count ≤ max_terms
  counts_fit = omega (arith, counts_are, size_most s R.sheet.well_formed at.term R.inside)

  pub found_there : {r : Result Typed Fault} {l''' : List ℕ} → Answered (types_of s) (inferred_model r) (place_judgement s at) l''' → {x : Visited}
      → CombinedFrom at.term r i j k x → VisitedAs s (some (placed_at s at)) x l'''
  unfolding term_judgement
  found_there {r} a {x} q =
      let T = types_of s in
      let A = authority s in
      record {
        judged = ap inferred_model q.judged_is ∙ a.is;
        count_is = q.count_is ∙ counts_are;
        smallest_is = q.smallest_is
            ∙ (λ z. or_own (smaller (smaller (at_first.smallest_is z) (at_second.smallest_is z)) (at_third.smallest_is z))
            (faulty_as at.term (counts_are z) (a.is z)))
            ∙ ap (or_own (below T A (context at.bindings) at.principal (tree s at.term)))
            (sym (refused_own (tree s at.term) at.term (size (tree s at.term)) (term_judgement s (context at.bindings) at.principal at.term)
            (tree_number s at.term) refl))
            ∙ sym (smallest_is T A (context at.bindings) at.principal (tree s at.term));
        known = a.known;
      }
