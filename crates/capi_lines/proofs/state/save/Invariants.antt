-- `save` writes the state's 102 numbers to the list. The invariant: the first i are the state's, the others as they were, and i is at most 102;
-- written_more makes it one number more. When the loop ends, i is 102 (written_over).
use Rattle.queues.specs.Answers.{lines_model}
use Rattle.replies.specs.Laws.{Copied}
use Rattle.capi_lines.specs.States.{state_numbers, state_written}
use Rattle.capi_lines.proofs.state.save.Given as goal

abbrev pub invariant-loop-i : goal.invariant-loop-i
invariant-loop-i l = Copied state_numbers (state_written (lines_model l.lines)) l.initial.state l.i l.state
