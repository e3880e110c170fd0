-- What an entry for the lines leaves, from the promises of the functions that it calls.
use mathlib.Core.Bool.{true, false, cond}
use mathlib.Core.List.{List, []}
use mathlib.Core.Path.{◌≡◌, refl, sym, ap, ◌∙◌}
use Prim.Native.Nat.{ℕ, ◌≤◌}
use lib.ListN.{length, set}
use Rattle.semantics.specs.Runs.{Buffers}
use Rattle.interp.specs.Answers.{buffers_of, outcome_model, counts_model}
use Rattle.std.specs.Prelude.{Option, Some, None, Result, Ok, Err}
use Rattle.interp.specs.Answers.{Run}
use Rattle.replies.specs.Replies.{unfit, written_nine, returned_reply}
use Rattle.replies.specs.Internal.{reply_model, Put}
use Rattle.replies.specs.Laws.{fit, in_place, run_eight, in_nine}
use Rattle.replies.specs.declared.Reply.{Reply}
use Rattle.queues.specs.Queues.{Job, Lines as LinesOf, add_of}
use Rattle.lines.specs.Serving as serving
use Rattle.lines.specs.Serving.{ServeAnswer, idle, answered, serve_of}
use Rattle.queues.specs.Answers.{lines_model, addition_model, added_model}
use Rattle.lines.specs.Answers.{job_answer, serve_model, served_line, served_model}
use Rattle.lines.specs.Theorems.{served_few}
use Rattle.queues.specs.declared.state.Lines.{Lines}
use Rattle.queues.specs.declared.state.AddRefusal.{AddRefusal}
use Rattle.lines.specs.declared.answer.Served.{Served}
use Rattle.lines.specs.declared.answer.Outside.{Outside}
use Rattle.capi_lines.specs.States.{state_numbers, state_read}
use Rattle.capi_lines.specs.Entries.{add_reply, returned_add, state_after, add_left, lines_add, serve_reply, returned_serve, served_state, serve_left, lines_serve}
use Rattle.capi_lines.specs.Internal.{JobReplyFits, ServeReplyFits}

-- ---- nothing is done
module _ (state answer store : List ℕ) where
  pub short_add : (l : ℕ) (j : Job) → unfit state_numbers 8 state answer ≡ true → returned_add 3 answer state ≡ lines_add state l j store answer
  short_add l j e = λ i. cond (sym e i) (returned_add 3 answer state) (add_left state answer (add_of (state_read state) l j store))

  pub short_serve : (b : Buffers) → unfit state_numbers 9 state answer ≡ true → returned_serve 3 answer state b ≡ lines_serve state store b answer
  short_serve b e = λ i. cond (sym e i) (returned_serve 3 answer state b) (serve_left state answer (serve_of (state_read state) store b))

-- ---- a job is added
module _ (state answer store : List ℕ) (size : length state ≡ state_numbers) (room : 8 ≤ length answer) (l : ℕ) (j : Job) (old : Lines)
    (load : lines_model old ≡ state_read state) where
  pub add_given : (r : Result (Unit {0}) AddRefusal) (q : Lines) → added_model r q ≡ add_of (lines_model old) l j store → {state' : List ℕ}
      → state' ≡ state_after (addition_model r) state (lines_model q) → {x : Reply} → reply_model x ≡ add_reply (addition_model r)
      → {status : ℕ} {after : List ℕ} → Put x answer status after
      → returned_add status after state' ≡ lines_add state l j store answer
  add_given r q e f g put =
      (λ i. record { reply = in_place answer room g put i; state = f i })
      ∙ ap (add_left state answer) (e ∙ ap (λ (s : LinesOf). add_of s l j store) load)
      ∙ (λ i. cond (sym (fit state_numbers 8 state answer size room) i) (returned_add 3 answer state)
      (add_left state answer (add_of (state_read state) l j store)))

-- ---- a job is served
reply_eight : (t : ServeAnswer) → length (serve_reply t).numbers ≡ 8
reply_eight idle = refl
reply_eight (answered a) = run_eight a

module _ (state answer store : List ℕ) (size : length state ≡ state_numbers) (room : 9 ≤ length answer) (b : Buffers) (old : Lines)
    (load : lines_model old ≡ state_read state) (r : Option Served) (q : Lines) {cells posts : List ℕ}
    (e : served_model r q cells posts ≡ serve_of (lines_model old) store b) where
  pub serve_given : {state' : List ℕ} → state' ≡ served_state (serve_model r) state (lines_model q) → {x : Reply}
      → reply_model x ≡ serve_reply (serve_model r) → {status : ℕ} {after : List ℕ} → Put x answer status after
      → returned_serve status (set after 8 (served_line r)) state' (buffers_of cells posts []) ≡ lines_serve state store b answer
  serve_given f g {status = status} {after = after} put =
      (λ i. record { reply = whole i; state = f i; buffers = buffers_of cells posts [] })
      ∙ ap (serve_left state answer) (e ∙ ap (λ (s : LinesOf). serve_of s store b) load)
      ∙ (λ i. cond (sym fits i) (returned_serve 3 answer state b) (serve_left state answer (serve_of (state_read state) store b)))
    where
      fits : unfit state_numbers 9 state answer ≡ false
      fits = fit state_numbers 9 state answer size room

      whole : returned_reply status (set after 8 (served_line r)) ≡ written_nine (serve_reply (serve_model r)) (served_line r) answer
      whole = in_nine answer room (serve_reply (serve_model r)) (reply_eight (serve_model r)) (served_line r) g put

-- the counts of a job's run are those of a run
module _ (s : LinesOf) (store : List ℕ) (b : Buffers) where
  few : (r : Result Run Outside) → answered (job_answer r) ≡ (serve_of s store b).answer → JobReplyFits r
  few (Err x) e = tt
  few (Ok (Err f)) e = tt
  few (Ok (Ok r)) e = served_few s store b (outcome_model r.outcome) (counts_model r.made) (sym e)

  pub small_answer : (r : Option Served) (q : Lines) {cells posts : List ℕ} → served_model r q cells posts ≡ serve_of s store b → ServeReplyFits r
  small_answer None q e = tt
  small_answer (Some r) q e = few r.answer (ap (λ (x : serving.Served). x.answer) e)
