-- What the entry for a run over ranges leaves, from the promises of the functions that it calls.
use mathlib.Core.Bool.{cond}
use mathlib.Core.List.{List, [], ◌∷◌}
use Rattle.std.specs.Prelude.{Ok, Err}
use mathlib.Core.Path.{◌≡◌, sym, ap, ◌∙◌}
use Prim.Native.Nat.{ℕ, ◌<◌, ◌≤◌}
use lib.ListN.{length}
use borrow.Author.Tests.{lt-ltb, le-ltb}
use Rattle.semantics.specs.Runs.{Request, Buffers, stopped}
use Rattle.intervals.specs.Runs.{interval_run}
use Rattle.intervals.proofs.Theorems.{interval_few, interval_uncounted}
use Rattle.interp.specs.Answers.{counts_model, buffers_of}
use Rattle.interp.specs.declared.answer.RunCounts.{RunCounts}
use Rattle.numbers.specs.Codes.{CodeIs}
use Rattle.numbers.specs.declared.Code.{Code}
use Rattle.ranges.specs.Answers.{interval_outcome_model, interval_run_model, after_intervals, IntervalRun}
use Rattle.replies.specs.Replies as replies
use Rattle.replies.specs.Replies.{returned_run}
use Rattle.replies.specs.Internal.{reply_model, with_counts, Put}
use Rattle.replies.specs.Laws.{in_place}
use Rattle.replies.specs.declared.Reply.{Reply}
use Rattle.capi_ranges.specs.Entries.{interval_finished, interval_reply, interval_left, interval_call}
use Rattle.capi_ranges.specs.Internal.{Uncounted, IntervalReplyFits}

-- ---- the numbers of an outcome, of which the last is 0
module _ (m : RunCounts) (h : Uncounted m) where
  uncounted : (status c p k v : ℕ) → with_counts status c p k v m
      ≡ record { status = status; numbers = c ∷ p ∷ k ∷ v ∷ m.calls ∷ m.cells ∷ m.posts ∷ 0 ∷ [] }
  uncounted status c p k v = λ i. record { status = status; numbers = c ∷ p ∷ k ∷ v ∷ m.calls ∷ m.cells ∷ m.posts ∷ h.none_saturated i ∷ [] }

  pub stopped_as : {r : replies.Reply} {x : Code} (cause term : ℕ) → r ≡ with_counts 1 x.cause x.place 0 0 m → CodeIs cause term x
      → r ≡ interval_finished (stopped cause term) (counts_model m)
  stopped_as cause term e k = e ∙ (λ i. with_counts 1 (k.cause_is i) (k.place_is i) 0 0 m) ∙ uncounted 1 cause term 0 0

-- ---- the entry
module _ (s ps : List ℕ) (q : Request) (b : Buffers) where
  pub short_answer : (answer : List ℕ) → length answer < 8 → returned_run 3 answer b ≡ interval_call answer b (interval_run s ps q b)
  short_answer answer h = λ i. cond (sym (lt-ltb (length answer) 8 h) i) (returned_run 3 answer b) (interval_left answer (interval_run s ps q b))

  pub reply_fits : (r : IntervalRun) → interval_run_model r ≡ (interval_run s ps q b).answer → IntervalReplyFits r
  reply_fits (Err f) e = tt
  reply_fits (Ok r) e = record {
    few = interval_few s ps q b (interval_outcome_model r.outcome) (counts_model r.made) (sym e);
    none_saturated = interval_uncounted s ps q b (interval_outcome_model r.outcome) (counts_model r.made) (sym e);
  }

  pub given : (answer : List ℕ) → 8 ≤ length answer → (r : IntervalRun) {cells posts : List ℕ} → after_intervals r cells posts ≡ interval_run s ps q b
      → {x : Reply} → reply_model x ≡ interval_reply (interval_run_model r) → {status : ℕ} {after : List ℕ} → Put x answer status after
      → returned_run status after (buffers_of cells posts []) ≡ interval_call answer b (interval_run s ps q b)
  given answer h r {cells} {posts} p e put =
      (λ i. record { reply = in_place answer h e put i; buffers = buffers_of cells posts [] })
      ∙ ap (interval_left answer) p
      ∙ (λ i. cond (sym (le-ltb (length answer) 8 h) i) (returned_run 3 answer b) (interval_left answer (interval_run s ps q b)))
