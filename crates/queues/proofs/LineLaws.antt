-- The four lines, from the struct to the state that it stands for: which line is served, what an add leaves, and what a turn leaves.
use mathlib.Core.Bool.{Bool, true, false, true≢false}
use mathlib.Core.List.{List, [], ◌∷◌, ◌++◌, map}
use mathlib.Core.Path.{◌≡◌, refl, sym, ap, ◌∙◌}
use Prim.Native.Nat.{ℕ, suc, ◌+◌, ◌-◌, ◌%◌, ◌<◌, ◌≤◌}
use native.Mathlib.Omega.{arith}
use lib.Dec.{ltb}
use lib.ListN.{length, get_or, set}
use borrow.Author.Tests.{lt-ltb, le-ltb}
use Rattle.program.specs.Screening.{clear, found, refuse_at, screen, unless}
use Rattle.queues.specs.Queues.{max_lines, max_jobs, Job, Lines as LinesOf, queue_at, inside, Added, added_to, add_of, nobody, turn_at, next_line, turn_from, turn_of, after_turn}
use Rattle.queues.specs.Answers.{queue_model, lines_model}
use Rattle.queues.specs.Internal.{has_job, SizeIs, NextLine}
use Rattle.queues.specs.declared.state.Queue.{Queue}
use Rattle.queues.specs.declared.state.Lines.{Lines}
use Rattle.queues.specs.Laws.{queue_read_is}
use Rattle.queues.proofs.ListLaws.{map_set}

-- ---- whose turn it is
module _ (s : LinesOf) where
  here : (n t : ℕ) → has_job (queue_at s t) ≡ true → turn_from (suc n) s t ≡ turn_at t (queue_at s t) (λ _. nobody)
  unfolding turn_from
  here n t = go (queue_at s t)
    where
      go : (js : List Job) → has_job js ≡ true → turn_at t js (λ _. turn_from n s (next_line t)) ≡ turn_at t js (λ _. nobody)
      go [] e = absurd (true≢false (sym e))
      go (j ∷ js) e = refl

  later : (n t : ℕ) → has_job (queue_at s t) ≡ false → turn_from (suc n) s t ≡ turn_from n s (next_line t)
  unfolding turn_from
  later n t = go (queue_at s t)
    where
      go : (js : List Job) → has_job js ≡ false → turn_at t js (λ _. turn_from n s (next_line t)) ≡ turn_from n s (next_line t)
      go [] e = refl
      go (j ∷ js) e = absurd (true≢false e)

-- the search, so many lines on from the one that is due: none of these has a job
module _ (q : Lines) where
  abbrev S : LinesOf
  S = lines_model q

  abbrev line_on : (k : ℕ) → ℕ
  line_on k = (q.turn % max_lines + k) % max_lines

  abbrev pub NoneYet : (k : ℕ) → Type 0
  NoneYet k = turn_of S ≡ turn_from (max_lines - k) S (line_on k)

  pub none_at_first : NoneYet 0
  none_at_first = let e : q.turn % max_lines ≡ line_on 0 = omega arith in ap (turn_from max_lines S) e

  one_left : (k : ℕ) → k < max_lines → max_lines - k ≡ suc (max_lines - (k + 1))
  one_left k h = omega arith

  module _ (k : ℕ) (h : k < max_lines) (none : NoneYet k) where
    pub line_found : has_job (queue_at S (line_on k)) ≡ true → NextLine q (line_on k)
    line_found e = record {
      below = omega arith;
      has_job_holds = e;
      turn_is = none ∙ ap (λ (n : ℕ). turn_from n S (line_on k)) (one_left k h) ∙ here S (max_lines - (k + 1)) (line_on k) e;
    }

    pub none_more : has_job (queue_at S (line_on k)) ≡ false → NoneYet (k + 1)
    none_more e =
        let next : next_line (line_on k) ≡ line_on (k + 1) = omega arith in
        none ∙ ap (λ (n : ℕ). turn_from n S (line_on k)) (one_left k h) ∙ later S (max_lines - (k + 1)) (line_on k) e
        ∙ ap (turn_from (max_lines - (k + 1)) S) next

  pub none_at_all : (k : ℕ) → max_lines ≤ k → NoneYet k → turn_of S ≡ nobody
  unfolding turn_from
  none_at_all k h none = let e : max_lines - k ≡ 0 = omega arith in none ∙ ap (λ (n : ℕ). turn_from n S (line_on k)) e

-- ---- a line has had its turn
pub turn_over : (q : Lines) (l at : ℕ) (rest : Queue) → lines_model (record { queues = set q.queues l rest; turn = (l + 1) % max_lines; place = at })
    ≡ after_turn (lines_model q) l (queue_model rest) at
turn_over q l at rest =
    let same : (l + 1) % max_lines % max_lines ≡ next_line l = omega arith in
    λ i. record { queues = map_set queue_model q.queues l rest i; turn = same i; place = at }

-- ---- an add, by its tests
module _ (q : Lines) (l : ℕ) (j : Job) (store : List ℕ) where
  abbrev tested : (below within room : Bool) → Added
  tested x y z = added_to (screen (unless 27 x ∷ unless 28 y ∷ unless 29 z ∷ [])) (lines_model q) l j

  by_tests : {x y z : Bool} → ltb l max_lines ≡ x → inside j store ≡ y → ltb (length (queue_at (lines_model q) l)) max_jobs ≡ z
      → add_of (lines_model q) l j store ≡ tested x y z
  unfolding add_of
  by_tests e f g = λ i. tested (e i) (f i) (g i)

  pub past_lines : max_lines ≤ l → record { answer = found 27 0; state = lines_model q } ≡ add_of (lines_model q) l j store
  unfolding screen refuse_at
  past_lines h = sym (by_tests (le-ltb l max_lines h) refl refl)

  module _ (below : l < max_lines) {x : Bool} (within : x ≡ inside j store) where
    pub outside_answered : x ≡ false → record { answer = found 28 0; state = lines_model q } ≡ add_of (lines_model q) l j store
    unfolding screen refuse_at
    outside_answered e = sym (by_tests (lt-ltb l max_lines below) (sym within ∙ e) refl)

    module _ (f : x ≡ true) (none : Queue) (four : length q.queues ≡ max_lines) (n : ℕ) (size : SizeIs (get_or q.queues l none) n) where
      size_of : length (queue_at (lines_model q) l) ≡ n
      size_of = ap length (queue_read_is q l none (omega arith)) ∙ sym size.size_is

      pub full_answered : max_jobs ≤ n → record { answer = found 29 0; state = lines_model q } ≡ add_of (lines_model q) l j store
      unfolding screen refuse_at
      full_answered e =
          sym (by_tests (lt-ltb l max_lines below) (sym within ∙ f)
          (le-ltb (length (queue_at (lines_model q) l)) max_jobs (omega (arith, size_of, e))))

      pub has_added : n < max_jobs → (more again : Queue) → queue_model more ≡ queue_model (get_or q.queues l again) ++ (j ∷ [])
          → record { answer = clear; state = lines_model (record { queues = set q.queues l more; turn = q.turn; place = q.place }) }
          ≡ add_of (lines_model q) l j store
      unfolding screen refuse_at
      has_added e more again grown =
          let behind : queue_model more ≡ queue_at (lines_model q) l ++ (j ∷ []) =
          grown ∙ ap (λ (js : List Job). js ++ (j ∷ [])) (sym (queue_read_is q l again (omega arith))) in
          let queues-are : map queue_model (set q.queues l more) ≡ set (map queue_model q.queues) l (queue_at (lines_model q) l ++ (j ∷ [])) =
          map_set queue_model q.queues l more ∙ ap (set (map queue_model q.queues) l) behind in
          (λ i. record { answer = clear; state = record { queues = queues-are i; turn = q.turn % max_lines; place = q.place } })
          ∙ sym (by_tests (lt-ltb l max_lines below) (sym within ∙ f)
          (lt-ltb (length (queue_at (lines_model q) l)) max_jobs (omega (arith, e, size_of))))
