-- `load` copies the list's 16 bytes. The invariant: the first i are the list's, the others as they were, and i is at most 16 (written_more makes it one more).
use Rattle.replies.specs.Laws.{Copied}
use Rattle.capi_block.proofs.block.load.Given as goal

abbrev pub invariant-loop-i : goal.invariant-loop-i
invariant-loop-i l = Copied 16 l.block l.initial.bytes l.i l.bytes
