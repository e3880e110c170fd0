-- The laws of subsequences: what may be left out of either list, and the test `occurs` decides the relation.
use Rattle.std.specs.Prelude.{Bool, true, false, ◌&&◌, List, [], ◌∷◌, ◌↔◌, ◌≡◌, refl, ℕ, zero, suc, ◌≤◌, eqb, length, take}
use Rattle.std.proofs.lemmas.Bool.{false≢true}
use Rattle.std.proofs.Common.{ap, ◌∙◌, subst, arith, eqb-true, eq-eqb}
use Rattle.privileges.specs.Booleans.{and_left, and_right, and_both}
use Rattle.program.specs.Tests.{also, or_else}
use Rattle.traces.specs.Traces.{Event}
use Rattle.traces.specs.Comparing.{Subsequence, nothing, here, later, same_decision, same_event, occurs}

-- ---- equal events
decision_true : (a b : Bool) → same_decision a b ≡ true → a ≡ b
decision_true true true e = refl
decision_true true false e = absurd (false≢true e)
decision_true false true e = absurd (false≢true e)
decision_true false false e = refl

decision_same : (a : Bool) → same_decision a a ≡ true
decision_same true = refl
decision_same false = refl

pub same_true : (a b : Event) → same_event a b ≡ true → a ≡ b
same_true a b e = λ i. record {
  term = eqb-true a.term b.term (and_left term privilege numbers) i;
  privilege = eqb-true a.privilege b.privilege (and_right term privilege numbers) i;
  decided = decision_true a.decided b.decided (and_right (term && privilege) (same_decision a.decided b.decided) e) i;
}
  where
    term : Bool
    term = eqb a.term b.term

    privilege : Bool
    privilege = eqb a.privilege b.privilege

    numbers : (term && privilege) ≡ true
    numbers = and_left (term && privilege) (same_decision a.decided b.decided) e

pub same_self : (a : Event) → same_event a a ≡ true
same_self a = and_both (and_both (eq-eqb a.term a.term refl) (eq-eqb a.privilege a.privilege refl)) (decision_same a.decided)

-- ---- the relation
pub whole : (o : List Event) → Subsequence o o
whole [] = nothing
whole (e ∷ o) = here (whole o)

pub beginning : (k : ℕ) {u o : List Event} → Subsequence u o → Subsequence (take k u) o
beginning zero s = nothing
beginning (suc k) nothing = nothing
beginning (suc k) (here s) = here (beginning k s)
beginning (suc k) (later s) = later (beginning (suc k) s)

pub without_first : {e : Event} {u o : List Event} → Subsequence (e ∷ u) o → Subsequence u o
without_first (here s) = later s
without_first (later s) = later (without_first s)

pub no_longer : {u o : List Event} → Subsequence u o → length u ≤ length o
no_longer nothing = omega arith
no_longer (here s) = omega (arith, no_longer s)
no_longer (later s) = omega (arith, no_longer s)

-- where the first events are equal, the others occur behind; where they are not, all do
pub behind_same : {e : Event} {u o : List Event} → Subsequence (e ∷ u) (e ∷ o) → Subsequence u o
behind_same s = go s refl
  where
    go : {e f : Event} {u o : List Event} → Subsequence (e ∷ u) (f ∷ o) → e ≡ f → Subsequence u o
    go (here s) q = s
    go (later s) q = without_first s

pub behind_other : {e f : Event} {u o : List Event} → (e ≡ f → ⊥) → Subsequence (e ∷ u) (f ∷ o) → Subsequence (e ∷ u) o
behind_other n (here s) = absurd (n refl)
behind_other n (later s) = s

-- ---- the test decides it
occurs_sound : (u o : List Event) → occurs u o ≡ true → Subsequence u o
unfolding occurs
occurs_sound [] o h = nothing
occurs_sound (e ∷ u) [] h = absurd (false≢true h)
occurs_sound (e ∷ u) (f ∷ o) h = go (same_event e f) refl (occurs u o) h (occurs_sound u o) (occurs_sound (e ∷ u) o)
  where
    go : (b : Bool) → same_event e f ≡ b → (c : Bool) → or_else (also b λ _. c) (λ _. occurs (e ∷ u) o) ≡ true → (c ≡ true → Subsequence u o)
        → (occurs (e ∷ u) o ≡ true → Subsequence (e ∷ u) o) → Subsequence (e ∷ u) (f ∷ o)
    go true q true h x y = subst (λ (g : Event). Subsequence (e ∷ u) (g ∷ o)) (same_true e f q) (here (x refl))
    go true q false h x y = later (y h)
    go false q c h x y = later (y h)

or_first : {a : Bool} (b : Bool) → a ≡ true → or_else a (λ _. b) ≡ true
or_first b e = ap (λ (x : Bool). or_else x (λ _. b)) e

or_second : (a : Bool) {b : Bool} → b ≡ true → or_else a (λ _. b) ≡ true
or_second true e = refl
or_second false e = e

occurs_later : (u : List Event) (f : Event) (o : List Event) → occurs u o ≡ true → occurs u (f ∷ o) ≡ true
unfolding occurs
occurs_later [] f o h = refl
occurs_later (e ∷ u) f o h = or_second (also (same_event e f) λ _. occurs u o) h

occurs_here : (e : Event) (u o : List Event) → occurs u o ≡ true → occurs (e ∷ u) (e ∷ o) ≡ true
unfolding occurs
occurs_here e u o h = or_first (occurs (e ∷ u) o) ((λ i. also (same_self e i) λ _. occurs u o) ∙ h)

occurs_complete : {u o : List Event} → Subsequence u o → occurs u o ≡ true
unfolding occurs
occurs_complete nothing = refl
occurs_complete (here {e} {u} {o} s) = occurs_here e u o (occurs_complete s)
occurs_complete (later {e} {u} {o} s) = occurs_later u e o (occurs_complete s)

pub occurs_decides : (u o : List Event) → (occurs u o ≡ true) ↔ Subsequence u o
occurs_decides u o = (occurs_sound u o, λ s. occurs_complete s)
