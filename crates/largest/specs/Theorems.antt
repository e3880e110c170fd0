-- What a reader may count on: a run with the lengths asked for is 01's run, and with another length it is turned back in 15's turn; its counts are those
-- of a run, and a refusal leaves the buffers.
use Rattle.std.specs.Prelude.{Bool, List, [], ◌∷◌, ◌++◌, reverse, ◌≡◌, ℕ, ◌≤◌, drop}
use Rattle.std.proofs.Math.Bool.{true, false}
use Rattle.std.proofs.Math.Path.{refl, sym}
use Rattle.std.proofs.Common.{ap, ◌∙◌, arith, length-append}
use Rattle.std.proofs.Math.ListN.{length}
use Rattle.std.proofs.lemmas.List.{length-reverse}
use Rattle.program.specs.Layout.{root}
use Rattle.program.specs.Screening.{Screening, clear, found, refuse_at, screen, unless, unless_found}
use Rattle.program.specs.Decoding.{decoding_conditions, decoding, Readable}
use Rattle.program.proofs.Laws.Screening.{screen_clear, screen_found}
use Rattle.semantics.specs.Values.{Budget, budget}
use Rattle.semantics.specs.Runs.{Request, Buffers, Sizes, sizes, start_ok, buffers_ok, limits_ok, run_conditions, Course, rejected, started, course, Outcome, RunCounts, Answer, refused, ran, left, counts, answer_of, in_order, buffers_after, After, run}
use Rattle.semantics.specs.Claims.{Few}
use Rattle.semantics.proofs.Theorems.{course_found, run_course, refused_untouched, lengths_kept, counts_few}
use Rattle.largest.specs.Largest.{largest_conditions, refused_with, largest_run}

-- ---- "a buffer asked for as the largest and lent in another length is 15"
refused≢ran : {c p : ℕ} {o : Outcome} {k : RunCounts} → refused c p ≡ ran o k → ⊥
refused≢ran e = let z : ◌≡◌ {A = ℕ} 0 1 = cc in omega arith

-- no run makes more posts than its list has places
abbrev posted : ℕ → Answer → ℕ
posted n (refused c p) = n
posted n (ran o k) = k.posts

by_course : (r n : ℕ) (q : Request) (b : Buffers) (x : Course) (o : Outcome) (k : RunCounts) → length (buffers_after q.runner b x).posts ≡ n
    → answer_of r q (sizes b) x ≡ ran o k → k.posts ≤ n
by_course r n q b (rejected c p) o k h e = absurd (refused≢ran e)
by_course r n q b (started x) o k h e = go (left x) h (ap (posted n) e)
  where
    go : (u : Budget) → length (in_order u ++ drop (length (in_order u)) b.posts) ≡ n → (counts q (sizes b) u).posts ≡ k.posts → k.posts ≤ n
    go (budget c d m log) g f =
        omega (arith, length-append (reverse log.posts) (drop (length (reverse log.posts)) b.posts), length-reverse log.posts)

module _ (s : List ℕ) (q : Request) (b : Buffers) where
  run_posts : (o : Outcome) (k : RunCounts) → (run s q b).answer ≡ ran o k → k.posts ≤ length b.posts
  unfolding run
  run_posts o k e = by_course (root s) (length b.posts) q b (course s q (sizes b)) o k (ap (λ (z : Sizes). z.posts) (lengths_kept s q b)) e

  abbrev refused_run : (cause place : ℕ) → After
  refused_run c p = record { answer = refused c p; buffers = b }

  largest_by : (right : Bool) {x : Screening} → screen (largest_conditions right s q) ≡ x
      → largest_run right s q b ≡ unless_found (refused_with b) x (λ _. run s q b)
  unfolding largest_run
  largest_by right e = λ i. unless_found (refused_with b) (e i) (λ _. run s q b)

  run_by : (c p : ℕ) → screen (run_conditions s q (sizes b)) ≡ found c p → run s q b ≡ refused_run c p
  run_by c p e = run_course s q b _ (course_found s q b c p e)

  -- what is left to ask once a sheet has been read
  abbrev largest_screening : (start right : Bool) → Screening
  largest_screening a r = screen (unless 14 a ∷ unless 15 r ∷ [])

  largest_screened : Readable s → (right : Bool) {a : Bool} → start_ok s q ≡ a → screen (largest_conditions right s q) ≡ largest_screening a right
  unfolding decoding
  largest_screened r right e = screen_clear (decoding_conditions s) (unless 14 (start_ok s q) ∷ unless 15 right ∷ []) r ∙ (λ i. largest_screening (e i) right)

  abbrev run_screening : (start : Bool) → Screening
  run_screening a = screen (unless 14 a ∷ unless 15 (buffers_ok q.runner (sizes b)) ∷ unless 16 (limits_ok q) ∷ [])

  run_screened : Readable s → {a : Bool} → start_ok s q ≡ a → screen (run_conditions s q (sizes b)) ≡ run_screening a
  unfolding decoding
  run_screened r e =
      screen_clear (decoding_conditions s) (unless 14 (start_ok s q) ∷ unless 15 (buffers_ok q.runner (sizes b)) ∷ unless 16 (limits_ok q) ∷ []) r
      ∙ (λ i. run_screening (e i))

  readable_runs : Readable s → (a : Bool) → start_ok s q ≡ a → largest_run true s q b ≡ run s q b
  unfolding screen refuse_at
  readable_runs r true e = largest_by true (largest_screened r true e)
  readable_runs r false e = largest_by true (largest_screened r true e) ∙ sym (run_by 14 0 (run_screened r e))

  -- 1 to 8 and 31 come first,
  pub unreadable_first : (right : Bool) (c p : ℕ) → decoding s ≡ found c p → largest_run right s q b ≡ refused_run c p
  unfolding decoding
  unreadable_first right c p e = largest_by right (screen_found (decoding_conditions s) _ c p e)

  -- then 14, and then another length is 15, whatever the allowance.
  pub other_length : Readable s → start_ok s q ≡ true → largest_run false s q b ≡ refused_run 15 0
  unfolding screen refuse_at
  other_length r e = largest_by false (largest_screened r false e)

  -- With the lengths asked for it is the run that anyone may ask for.
  pub same_run : largest_run true s q b ≡ run s q b
  unfolding decoding
  same_run = go (decoding s) refl
    where
      go : (x : Screening) → decoding s ≡ x → largest_run true s q b ≡ run s q b
      go clear e = readable_runs e (start_ok s q) refl
      go (found c p) e = unreadable_first true c p e ∙ sym (run_by c p (screen_found (decoding_conditions s) _ c p e))

  -- The counts and the buffers are therefore as in any run.
  pub largest_few : (right : Bool) (o : Outcome) (k : RunCounts) → (largest_run right s q b).answer ≡ ran o k → Few k
  unfolding largest_run
  largest_few right o k = go (screen (largest_conditions right s q))
    where
      go : (x : Screening) → (unless_found (refused_with b) x (λ _. run s q b)).answer ≡ ran o k → Few k
      go clear e = counts_few s q b o k e
      go (found c p) e = absurd (refused≢ran e)

  pub largest_posts : (right : Bool) (o : Outcome) (k : RunCounts) → (largest_run right s q b).answer ≡ ran o k → k.posts ≤ length b.posts
  unfolding largest_run
  largest_posts right o k = go (screen (largest_conditions right s q))
    where
      go : (x : Screening) → (unless_found (refused_with b) x (λ _. run s q b)).answer ≡ ran o k → k.posts ≤ length b.posts
      go clear e = run_posts o k e
      go (found c p) e = absurd (refused≢ran e)

  pub largest_untouched : (right : Bool) (c p : ℕ) → (largest_run right s q b).answer ≡ refused c p → (largest_run right s q b).buffers ≡ b
  unfolding largest_run
  largest_untouched right c p = go (screen (largest_conditions right s q))
    where
      go : (x : Screening) → (unless_found (refused_with b) x (λ _. run s q b)).answer ≡ refused c p
          → (unless_found (refused_with b) x (λ _. run s q b)).buffers ≡ b
      go clear e = refused_untouched s q b c p e
      go (found d r) e = refl

  pub largest_lengths : (right : Bool) → sizes (largest_run right s q b).buffers ≡ sizes b
  unfolding largest_run
  largest_lengths right = go (screen (largest_conditions right s q))
    where
      go : (x : Screening) → sizes (unless_found (refused_with b) x (λ _. run s q b)).buffers ≡ sizes b
      go clear = lengths_kept s q b
      go (found c p) = refl
