-- What a reader may count on. Of an add: it is refused exactly when 27, 28 or 29 holds, by the first of them, and then nothing changes. Of whose turn it is:
-- the line that is served is the first with a job from the turn on, the lines between are empty, and it is its oldest job that is served; and if nobody is
-- served all four lines are empty.
use mathlib.Core.List.{List, [], ◌∷◌}
use Rattle.std.specs.Prelude.{◌↔◌}
use Rattle.std.proofs.Math.Path.{◌≡◌, refl, ap}
use Rattle.std.proofs.Common.{sym, ◌∙◌, arith}
use Prim.Native.Nat.{ℕ, zero, suc, ◌+◌, ◌-◌, ◌%◌, ◌<◌}
use Rattle.program.specs.Screening.{Screening, clear, found, screen, First}
use Rattle.program.proofs.Laws.Screening.{found≢clear, found_first, first_found}
use Rattle.queues.specs.Queues.{max_lines, Job, Lines, queue_at, add_conditions, added_to, add_of, nobody, serves, turn_at, next_line, turn_from, turn_of}

-- ---- a job is added
module _ (s : Lines) (l : ℕ) (j : Job) (store : List ℕ) where
  answer_is : (x : Screening) → (added_to x s l j).answer ≡ x
  answer_is clear = refl
  answer_is (found c p) = refl

  -- "A line other than 0 to 3 is 27, a part outside the store 28 and a full queue 29, tested in that order": the first that holds is told, and none otherwise
  pub add_refused_exactly : (c p : ℕ) → ((add_of s l j store).answer ≡ found c p) ↔ First c p (add_conditions s l j store)
  unfolding add_of
  add_refused_exactly c p =
      let answered = answer_is (screen (add_conditions s l j store)) in
      (λ e. found_first (add_conditions s l j store) c p (sym answered ∙ e), λ f. answered ∙ first_found f)

  -- "and the queues don't change", nor the turn nor the place
  pub add_refused_leaves : (c p : ℕ) → (add_of s l j store).answer ≡ found c p → (add_of s l j store).state ≡ s
  unfolding add_of
  add_refused_leaves c p = go (screen (add_conditions s l j store))
    where
      go : (x : Screening) → (added_to x s l j).answer ≡ found c p → (added_to x s l j).state ≡ s
      go clear e = absurd (found≢clear (sym e))
      go (found d r) e = refl

-- ---- whose turn it is

-- so many lines from this one on have no job
abbrev pub EmptyFrom : Lines → (line count : ℕ) → Type 0
EmptyFrom s t n = (i : ℕ) → i < n → queue_at s ((t + i) % max_lines) ≡ []

-- "in turn …, empty lines skipped, oldest job first": of so many lines from the turn on, this one is the first with a job
pub record FirstWaiting (lines : ℕ) (s : Lines) (turn line : ℕ) (j : Job) (rest : List Job) : Type 0 where
  pub skipped : ℕ
  pub within : skipped < lines
  pub line_is : line ≡ (turn + skipped) % max_lines
  pub empty_before : EmptyFrom s turn skipped
  pub oldest_first : queue_at s line ≡ j ∷ rest

module _ (s : Lines) where
  -- an empty line and those behind it
  one_more : (t : ℕ) → t < max_lines → queue_at s t ≡ [] → (n : ℕ) → EmptyFrom s (next_line t) n → EmptyFrom s t (suc n)
  one_more t h e n rest zero l = let z : (t + zero) % max_lines ≡ t = omega arith in ap (queue_at s) z ∙ e
  one_more t h e n rest (suc i) l =
      let z : (t + suc i) % max_lines ≡ (next_line t + i) % max_lines = omega arith in
      ap (queue_at s) z ∙ rest i (omega arith)

  first_from : (n t line : ℕ) (j : Job) (js : List Job) → t < max_lines → turn_from n s t ≡ serves line j js → FirstWaiting n s t line j js
  unfolding turn_from
  first_from zero t line j js h e = absurd (let z : ◌≡◌ {A = ℕ} 0 1 = cc in omega arith)
  first_from (suc n) t line j js h e = go (queue_at s t) refl e (first_from n (next_line t) line j js (omega arith))
    where
      go : (q : List Job) → queue_at s t ≡ q → turn_at t q (λ _. turn_from n s (next_line t)) ≡ serves line j js
          → (turn_from n s (next_line t) ≡ serves line j js → FirstWaiting n s (next_line t) line j js) → FirstWaiting (suc n) s t line j js
      go [] f g rest =
          let r = rest g in
          record {
            skipped = suc r.skipped;
            within = omega (arith, r.within);
            line_is = omega (arith, r.line_is);
            empty_before = one_more t h f r.skipped r.empty_before;
            oldest_first = r.oldest_first;
          }
      go (x ∷ xs) f g rest =
          let z : t ≡ line = cc in
          record {
            skipped = 0;
            within = omega arith;
            line_is = omega (arith, z);
            empty_before = λ i l. absurd (omega (arith, l));
            oldest_first = ap (queue_at s) (sym z) ∙ f ∙ (cc);
          }

  empty_from : (n t : ℕ) → t < max_lines → turn_from n s t ≡ nobody → EmptyFrom s t n
  unfolding turn_from
  empty_from zero t h e = λ i l. absurd (omega (arith, l))
  empty_from (suc n) t h e = go (queue_at s t) refl e (empty_from n (next_line t) (omega arith))
    where
      go : (q : List Job) → queue_at s t ≡ q → turn_at t q (λ _. turn_from n s (next_line t)) ≡ nobody
          → (turn_from n s (next_line t) ≡ nobody → EmptyFrom s (next_line t) n) → EmptyFrom s t (suc n)
      go [] f g rest = one_more t h f n (rest g)
      go (x ∷ xs) f g rest = absurd (let z : ◌≡◌ {A = ℕ} 0 1 = cc in omega arith)

  module _ (below : s.turn < max_lines) where
    pub served_first : (line : ℕ) (j : Job) (rest : List Job) → turn_of s ≡ serves line j rest → FirstWaiting max_lines s s.turn line j rest
    served_first line j rest e = first_from max_lines s.turn line j rest below e

    pub nobody_waiting : turn_of s ≡ nobody → (l : ℕ) → l < max_lines → queue_at s l ≡ []
    nobody_waiting e l h =
        let distance = (l + max_lines - s.turn) % max_lines in
        let z : l ≡ (s.turn + distance) % max_lines = omega arith in
        ap (queue_at s) z ∙ empty_from max_lines s.turn below e distance (omega arith)
