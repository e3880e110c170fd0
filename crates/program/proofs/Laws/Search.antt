-- A loop that seeks the lowest index that fails a test, and a `find` that does.
use Rattle.std.specs.Prelude.{Bool, true, false, ◌≡◌, ℕ, zero, suc, ◌+◌, ◌-◌, ◌<◌, ◌≤◌, Option, Some, None, MatchOption, ⊤, List, not}
use Rattle.std.proofs.Math.Option.{none, some}
use Rattle.std.proofs.Common.{refl, sym, ap, ◌∙◌, Bor, arith}
use Rattle.std.proofs.lemmas.Bool.{false≢true}
use Rattle.std.specs.Fn.{CalledAt}
use denote.Param.Members.{Mut}
use Rattle.std.specs.Iterator.{YieldsThen}
use Rattle.std.proofs.iter.Yields.{nat_range_steps}
use Rattle.std.specs.declared.ops.Range.{Range}
use Rattle.std.specs.List.{FoldsTo}
use Rattle.std.proofs.lemmas.Iterator.{first_from_Range}
use Rattle.program.specs.Screening.{onward, lowest}
use Rattle.program.specs.Search.{found_model}

module _ (ok : ℕ → Bool) (t n : ℕ) where
  lowest_step : t < n → lowest ok t (n - t) ≡ onward (ok t) t (λ _. lowest ok (t + 1) (n - (t + 1)))
  lowest_step h =
      let a : n - t ≡ suc (n - (t + 1)) = omega arith in
      let b : t + 1 ≡ suc t = omega arith in
      ap (lowest ok t) a ∙ ap (λ (x : ℕ). onward (ok t) t (λ _. lowest ok x (n - (t + 1)))) (sym b)

  pub lowest_here : t < n → ok t ≡ false → some t ≡ lowest ok t (n - t)
  lowest_here h e = sym (lowest_step h ∙ ap (λ (b : Bool). onward b t (λ _. lowest ok (t + 1) (n - (t + 1)))) e)

  pub lowest_more : t < n → ok t ≡ true → lowest ok t (n - t) ≡ lowest ok (t + 1) (n - (t + 1))
  lowest_more h e = lowest_step h ∙ ap (λ (b : Bool). onward b t (λ _. lowest ok (t + 1) (n - (t + 1)))) e

  pub lowest_past : n ≤ t → none ≡ lowest ok t (n - t)
  lowest_past h = let a : n - t ≡ 0 = omega arith in sym (ap (lowest ok t) a)

pub lowest_starts : (ok : ℕ → Bool) (n : ℕ) → lowest ok 0 n ≡ lowest ok 0 (n - 0)
lowest_starts ok n = let e : n ≡ n - 0 = omega arith in ap (lowest ok 0) e

-- ---- `find` over the numbers below n
-- of so many numbers all pass the test
lowest_from : (ok : ℕ → Bool) (n i : ℕ) → i ≤ n → ((k : ℕ) → 0 ≤ k → k < i → ok k ≡ true) → lowest ok 0 n ≡ lowest ok i (n - i)
lowest_from ok n zero l h = lowest_starts ok n
lowest_from ok n (suc i) l h =
    let e : i + 1 ≡ suc i = omega arith in
    lowest_from ok n i (omega arith) (λ k a b. h k a (omega arith)) ∙ lowest_more ok i n (omega arith) (h i (omega arith) (omega arith))
    ∙ ap (λ (x : ℕ). lowest ok x (n - x)) e

-- what `find` answers that seeks a number whose test fails (std's first_from_Range)
pub lowest_found : (ok : ℕ → Bool) (n : ℕ) (r : Option ℕ)
    → MatchOption r ((k : ℕ) → 0 ≤ k → k < n → ok k ≡ true)
    (λ i. (0 ≤ i) × (i < n) × (ok i ≡ false) × ((k : ℕ) → 0 ≤ k → k < i → ok k ≡ true))
    → found_model r ≡ lowest ok 0 n
lowest_found ok n (Some i) h = lowest_here ok i n h.1 h.2 ∙ sym (lowest_from ok n i (omega (arith, h.1)) h.3)
lowest_found ok n None h = lowest_past ok n n (omega arith) ∙ sym (lowest_from ok n n (omega arith) h)

-- the same of a closure that answers whether the test fails
pub find_failing : {F : Type 0} {g : Mut F (Bor ℕ × Unit {0}) Bool} (ok : ℕ → Bool) (n : ℕ) (u : Range ℕ) (f : F) (r : Option ℕ)
    → (xs : List ℕ) × (j : F) × YieldsThen nat_range_steps (record { start = 0; end = n }) xs r u × FoldsTo (λ p x q. CalledAt g p x false q) f xs j
    × MatchOption r ⊤ (λ x. (h : F) × CalledAt g j x true h)
    → ((x : ℕ) (b : Bool) (q : F) → CalledAt g f x b q → (q ≡ f) × (b ≡ not (ok x)))
    → found_model r ≡ lowest ok 0 n
find_failing ok n u f r ran answers =
    lowest_found ok n r (first_from_Range _ u f r (λ t. ok t ≡ false) (λ t. ok t ≡ true) ran (λ x q k. fails (ok x) (answers x true q k).1)
    (λ x q k. ((answers x false q k).0, passes (ok x) (answers x false q k).1)))
  where
    fails : (b : Bool) → true ≡ not b → b ≡ false
    fails true e = absurd (false≢true (sym e))
    fails false e = refl

    passes : (b : Bool) → false ≡ not b → b ≡ true
    passes true e = refl
    passes false e = absurd (false≢true e)
