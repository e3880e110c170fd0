-- Each event placed as early as it can be: so many of the unit's first events can be placed and no more, so that this number decides the comparison.
use Rattle.std.specs.Prelude.{Bool, true, false, cond, List, [], ◌∷◌, ◌≡◌, ℕ, zero, suc, ◌-◌, ◌<◌, ◌≤◌, take}
use Rattle.std.proofs.Common.{true≢false, sym, ◌∙◌, subst, arith, length-take-le, take-take}
use Rattle.std.proofs.lemmas.Bool.{false≢true}
use Rattle.std.proofs.Math.Option.{Option, none, some}
use Rattle.std.proofs.Math.Path.{refl, ap}
use Rattle.std.proofs.Math.ListN.{length}
use Rattle.privileges.specs.Booleans.{bool_ext}
use Rattle.program.specs.Screening.{lowest}
use Rattle.program.proofs.Laws.Screening.{lowest_some, lowest_at}
use Rattle.traces.specs.Traces.{Event}
use Rattle.traces.specs.Comparing.{Subsequence, nothing, here, later, same_event, occurs, fits, diverges, comparison_of, compared}
use Rattle.traces.proofs.Laws.Subsequences.{same_true, same_self, beginning, no_longer, behind_same, behind_other, occurs_decides}

-- how many of the unit's events are placed, one after the other, each as early as it can be
unfoldable pub matched : (unit office : List Event) → ℕ
matched [] o = 0
matched (e ∷ u) [] = 0
matched (e ∷ u) (f ∷ o) = cond (same_event e f) (suc (matched u o)) (matched (e ∷ u) o)

pub placed_none : (u : List Event) → matched u [] ≡ 0
unfolding matched
placed_none [] = refl
placed_none (e ∷ u) = refl

pub placed_most : (u o : List Event) → matched u o ≤ length u
unfolding matched
placed_most [] o = omega arith
placed_most (e ∷ u) [] = omega arith
placed_most (e ∷ u) (f ∷ o) = go (same_event e f) (placed_most u o) (placed_most (e ∷ u) o)
  where
    go : (b : Bool) → matched u o ≤ length u → matched (e ∷ u) o ≤ suc (length u) → cond b (suc (matched u o)) (matched (e ∷ u) o) ≤ suc (length u)
    go true h g = omega arith
    go false h g = g

-- ---- so many can be placed
pub placed_occurs : (u o : List Event) → Subsequence (take (matched u o) u) o
unfolding matched
placed_occurs [] o = nothing
placed_occurs (e ∷ u) [] = nothing
placed_occurs (e ∷ u) (f ∷ o) = go (same_event e f) refl (placed_occurs u o) (placed_occurs (e ∷ u) o)
  where
    go : (b : Bool) → same_event e f ≡ b → Subsequence (take (matched u o) u) o → Subsequence (take (matched (e ∷ u) o) (e ∷ u)) o
        → Subsequence (take (cond b (suc (matched u o)) (matched (e ∷ u) o)) (e ∷ u)) (f ∷ o)
    go true q h g = subst (λ (x : Event). Subsequence (e ∷ take (matched u o) u) (x ∷ o)) (same_true e f q) (here h)
    go false q h g = later g

-- at most as many as the office has
pub placed_room : (u o : List Event) → matched u o ≤ length o
placed_room u o = omega (arith, no_longer (placed_occurs u o), length-take-le (matched u o) u (placed_most u o))

-- ---- and no more
apart : (e f : Event) → same_event e f ≡ false → e ≡ f → ⊥
apart e f q p = true≢false (sym (same_self e) ∙ ap (same_event e) p ∙ q)

pub placed_least : (k : ℕ) (u o : List Event) → k ≤ length u → Subsequence (take k u) o → k ≤ matched u o
unfolding matched
placed_least zero u o h s = omega arith
placed_least (suc k) [] o h s = absurd (omega arith)
placed_least (suc k) (e ∷ u) [] h s = absurd (omega (arith, no_longer s))
placed_least (suc k) (e ∷ u) (f ∷ o) h s = go (same_event e f) refl (placed_least k u o) (placed_least (suc k) (e ∷ u) o h)
  where
    go : (b : Bool) → same_event e f ≡ b → (k ≤ length u → Subsequence (take k u) o → k ≤ matched u o)
        → (Subsequence (take (suc k) (e ∷ u)) o → suc k ≤ matched (e ∷ u) o) → suc k ≤ cond b (suc (matched u o)) (matched (e ∷ u) o)
    go true q x y =
        let r = x (omega arith) (behind_same (subst (λ (z : Event). Subsequence (z ∷ take k u) (f ∷ o)) (same_true e f q) s)) in
        omega arith
    go false q x y = y (behind_other (apart e f q) s)

-- ---- the comparison, by this number
module _ (u o : List Event) where
  abbrev occurs_to : ℕ → Bool
  occurs_to k = occurs (take (suc k) u) o

  to_true : (k : ℕ) → k < matched u o → occurs_to k ≡ true
  to_true k h = (occurs_decides (take (suc k) u) o).1 (shorter (suc k) (omega arith))
    where
      shorter : (j : ℕ) → j ≤ matched u o → Subsequence (take j u) o
      shorter j l = subst (λ (x : List Event). Subsequence x o) (take-take j (matched u o) u l) (beginning j (placed_occurs u o))

  to_false : matched u o < length u → occurs_to (matched u o) ≡ false
  to_false h = bool_ext (occurs_to (matched u o)) false
      (λ q. absurd (omega (arith, placed_least (suc (matched u o)) u o (omega arith) ((occurs_decides (take (suc (matched u o)) u) o).0 q))))
      (λ q. absurd (false≢true q))

  pub compared_fits : length u ≤ matched u o → compared u o ≡ fits (length o - length u)
  unfolding compared
  compared_fits h = go (lowest occurs_to 0 (length u)) refl
    where
      go : (x : Option ℕ) → lowest occurs_to 0 (length u) ≡ x → comparison_of (length o - length u) x ≡ fits (length o - length u)
      go none e = refl
      go (some k) e =
          let l = lowest_some occurs_to 0 (length u) k e in
          absurd (true≢false (sym (to_true k (omega (arith, l.inside))) ∙ l.fails))

  pub compared_diverges : matched u o < length u → compared u o ≡ diverges (matched u o)
  unfolding compared
  compared_diverges h = ap (comparison_of (length o - length u)) (lowest_at occurs_to 0 (length u) (matched u o) (record {
    from = omega arith;
    inside = omega arith;
    fails = to_false h;
    least = λ y l g. to_true y g;
  }))
