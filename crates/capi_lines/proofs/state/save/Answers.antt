-- `save` writes the state's 102 numbers to the list. The invariant: the first i are the state's, the others as they were, and i is at most 102;
-- written_more makes it one number more. When the loop ends, i is 102 (written_over).
use native.Mathlib.Omega.{arith}
use mathlib.Core.Path.{sym, ap, ◌∙◌}
use lib.ListN.{set}
use Rattle.queues.specs.Answers.{lines_model}
use Rattle.replies.specs.Laws.{written_more, written_over}
use Rattle.capi_lines.specs.States.{state_numbers, state_written}
use Rattle.capi_lines.specs.Theorems.{written_size}
use Rattle.capi_lines.proofs.StateLaws.{written_at}
use Rattle.capi_lines.proofs.state.save.Goals as goal

pub loop-i-preserved : goal.loop-i-preserved
loop-i-preserved c =
    record {
      below = omega (arith, c.loop-i-test.true);
      copied = ap (set c.loop-i.state c.loop-i.i)
          (c.number_at.ensures ∙ sym (written_at (lines_model c.args.lines.now) c.loop-i.i c.loop-i-test.true))
          ∙ (written_more state_numbers
          (state_written (lines_model c.args.lines.now)) c.args.state.now c.loop-i.i (written_size (lines_model c.args.lines.now))
          c.loop-i.invariant (omega (arith, c.requires)) c.loop-i-test.true).copied;
    }

pub returns : goal.returns
returns c =
    written_over state_numbers (state_written (lines_model c.args.lines.now)) c.args.state.now c.loop-i.i
    (written_size (lines_model c.args.lines.now)) c.loop-i.invariant c.requires c.loop-i-test.false
