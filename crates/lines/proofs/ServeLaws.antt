-- A serve, from the promises of what it calls to the state, the answer and the buffers that 02 asks for.
use mathlib.Core.Bool.{Bool, true, false}
use mathlib.Core.List.{List, [], ◌∷◌}
use Rattle.std.specs.Prelude.{Ok, Err}
use mathlib.Core.Path.{◌≡◌, sym, ap, ◌∙◌}
use Prim.Native.Nat.{ℕ, ◌+◌, ◌^◌, ◌<◌}
use native.Mathlib.Nat.{add-zero}
use native.Mathlib.Omega.{arith}
use lib.ListN.{length, drop, length-drop}
use Rattle.program.specs.Limits.{max_cells}
use Rattle.semantics.specs.Runs.{Buffers, refused, After, post_count}
use Rattle.interp.specs.Answers.{buffers_of, run_model, outcome_model, counts_model, after, empty_stack_request, Run}
use Rattle.largest.specs.Largest.{is_largest}
use Rattle.queues.specs.Queues.{Job, Lines as LinesOf, inside, queue_at, Turn, nobody, serves, turn_at, turn_of, job_sheet, after_turn}
use Rattle.lines.specs.Serving.{rest_from, job_run, job_after, idle, answered, served_as, serve_turn, serve_of}
use Rattle.queues.specs.Answers.{job_model, lines_model}
use Rattle.queues.specs.Internal.{NextLine}
use Rattle.largest.specs.Theorems.{largest_posts}
use Rattle.queues.specs.declared.state.Lines.{Lines}
use Rattle.queues.specs.declared.state.Job as queued

-- ---- a serve
module _ (q : Lines) (store cells posts : List ℕ) where
  abbrev S : LinesOf
  S = lines_model q

  abbrev B : Buffers
  B = buffers_of cells posts []

  pub nobody_served : turn_of S ≡ nobody → record { answer = idle; line = 0; state = S; buffers = B } ≡ serve_of S store B
  unfolding serve_of
  nobody_served h = sym (ap (λ (t : Turn). serve_turn t S store B) h)

  module _ (l : ℕ) (next : NextLine q l) where
    module _ (job : queued.Job) (left : Lines) (oldest : queue_at S l ≡ job_model job ∷ drop 1 (queue_at S l))
        (taken : lines_model left ≡ after_turn S l (drop 1 (queue_at S l)) q.place) where
      abbrev J : Job
      J = job_model job

      abbrev R : List Job
      R = drop 1 (queue_at S l)

      turn_is : turn_of S ≡ serves l J R
      turn_is = next.turn_is ∙ ap (λ (js : List Job). turn_at l js (λ _. nobody)) oldest

      same_place : left.place ≡ q.place
      same_place = ap (λ (s : LinesOf). s.place) taken

      by_inside : {x : Bool} → x ≡ inside J store → serve_of S store B ≡ served_as S l R (job_after x J q.place store B)
      unfolding serve_of
      by_inside e = ap (λ (t : Turn). serve_turn t S store B) turn_is ∙ ap (λ (y : Bool). served_as S l R (job_after y J q.place store B)) (sym e)

      pub outside_served : (x : Bool) → x ≡ inside J store → x ≡ false
          → record { answer = answered (refused 28 0); line = l; state = lines_model left; buffers = B } ≡ serve_of S store B
      outside_served x e f =
          (λ i. record { answer = answered (refused 28 0); line = l; state = (taken ∙ ap (after_turn S l R) (sym (add-zero q.place))) i; buffers = B })
          ∙ sym (by_inside (sym f ∙ e))

      module _ (r : Run) {cells' posts' : List ℕ} (h : after r cells' posts' [] ≡ job_run J left.place store B) where
        at_place : after r cells' posts' [] ≡ job_run J q.place store B
        at_place = h ∙ ap (λ (k : ℕ). job_run J k store B) same_place

        pub run_served : (x : Bool) → x ≡ inside J store → x ≡ true → (posts : ℕ) → posts ≡ post_count (run_model r)
            → record {
              answer = answered (run_model r);
              line = l;
              state = lines_model (record { queues = left.queues; turn = left.turn; place = left.place + posts });
              buffers = buffers_of cells' posts' [];
            } ≡ serve_of S store B
        run_served x e f posts made =
            (λ i. record {
              answer = answered (run_model r);
              line = l;
              state = record { queues = (taken i).queues; turn = (taken i).turn; place = (taken i).place + made i };
              buffers = buffers_of cells' posts' [];
            })
            ∙ ap (served_as S l R) at_place ∙ sym (by_inside (sym f ∙ e))

        -- No run makes more posts than are left behind the place, so that the next place is at most the list's end, or stays.
        pub may_move : left.place < 2 ^ 64 → length posts < 2 ^ 64 → left.place + post_count (run_model r) < 2 ^ 64
        may_move p n = go r (ap (λ (a : After). a.answer) h)
          where
            go : (r : Run) → run_model r ≡ (job_run J left.place store B).answer → left.place + post_count (run_model r) < 2 ^ 64
            go (Err f) e = omega arith
            go (Ok r) e =
                omega (
                  arith,
                  length-drop left.place posts,
                  largest_posts (job_sheet J store) (empty_stack_request J.calls) (rest_from left.place B) (is_largest max_cells cells)
                      (outcome_model r.outcome) (counts_model r.made) (sym e),
                )
