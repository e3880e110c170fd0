-- What an entry for a run with a record leaves, from the promises of the functions that it calls.
use mathlib.Core.Bool.{cond}
use mathlib.Core.List.{List}
use Rattle.std.specs.Prelude.{Result}
use mathlib.Core.Path.{◌≡◌, sym, ap, ◌∙◌}
use Prim.Native.Nat.{ℕ, ◌<◌, ◌≤◌}
use native.Mathlib.Omega.{arith}
use lib.ListN.{length}
use borrow.Author.Tests.{lt-ltb, le-ltb}
use Rattle.semantics.specs.Runs.{Request, Buffers}
use Rattle.semantics.specs.Recording.{Recorded, recording}
use Rattle.semantics.proofs.RecordTheorems.{record_holds, decisions_few}
use Rattle.interp.specs.Answers.{run_model, buffers_of, after_recording, run_of, entries_of}
use Rattle.interp.specs.declared.answer.RecordedRun.{RecordedRun}
use Rattle.interp.specs.declared.answer.RunRefusal.{RunRefusal}
use Rattle.replies.specs.Replies.{run_reply, written_nine, returned_reply}
use Rattle.replies.specs.Laws.{small}
use Rattle.capi_record.specs.Entries.{returned_record, record_left, record_call}
use Rattle.capi_record.specs.Internal.{RecordReplyFits}

module _ (s : List ℕ) (q : Request) (b : Buffers) (t : List ℕ) where
  -- nothing is done
  pub short_answer : (answer : List ℕ) → length answer < 9 → returned_record 3 answer b t ≡ record_call answer b t (recording s q b t)
  short_answer answer h = λ i. cond (sym (lt-ltb (length answer) 9 h) i) (returned_record 3 answer b t) (record_left answer (recording s q b t))

  -- a run, with its record
  module _ (r : Result RecordedRun RunRefusal) {cells posts frames noted : List ℕ} (e : after_recording r cells posts frames noted ≡ recording s q b t) where
    -- a run decides at most 4,195,328 = (4,096 + 1) * 1,024 times: of each term once outside of calls and once in each call
    few : entries_of r < 4294967296
    few = omega (arith, ap (λ (x : Recorded). x.entries) e, (record_holds s q b t).as_many, decisions_few s q b)

    pub reply_fits : RecordReplyFits r
    unfolding recording
    reply_fits = record { counts_small = small s q b (run_of r) (ap (λ (x : Recorded). x.after.answer) e); entries_small = few }

    pub nine_written : (answer : List ℕ) → 9 ≤ length answer → {status : ℕ} {after : List ℕ}
        → returned_reply status after ≡ written_nine (run_reply (run_model (run_of r))) (entries_of r) answer
        → returned_record status after (buffers_of cells posts frames) noted ≡ record_call answer b t (recording s q b t)
    nine_written answer h p =
        (λ i. record { reply = p i; buffers = buffers_of cells posts frames; noted = noted })
        ∙ ap (record_left answer) e
        ∙ (λ i. cond (sym (le-ltb (length answer) 9 h) i) (returned_record 3 answer b t) (record_left answer (recording s q b t)))
