-- The eight numbers of the run, which `put` leaves, are followed by the number of entries (in_nine).
use native.Mathlib.Omega.{arith}
use Rattle.std.proofs.Common.{ap, ◌∙◌}
use Rattle.interp.specs.Answers.{Run, run_model, run_of, entries_of}
use Rattle.replies.specs.Replies.{run_reply}
use Rattle.replies.specs.Laws.{run_eight, in_nine}
use Rattle.capi_record.proofs.put_nine.Goals as goal

pub of_run-requires : goal.of_run-requires
of_run-requires c = rw c.run_of.ensures c.requires.reply_fits.counts_small

pub overflow_cast-answer : goal.overflow_cast-answer
overflow_cast-answer c = omega (arith, c.entries_of.ensures, c.requires.reply_fits.entries_small)

pub returns : goal.returns
returns c = rw c.entries_of.ensures (
    in_nine c.args.answer.now c.requires.room (run_reply (run_model (run_of c.args.r))) (run_eight (run_model (run_of c.args.r)))
    (entries_of c.args.r) (c.of_run.ensures ∙ ap (λ (r : Run). run_reply (run_model r)) c.run_of.ensures) c.put-status.ensures)
