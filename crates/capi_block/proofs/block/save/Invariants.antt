-- `save` writes the block's 16 bytes to the list. The invariant: the first i are the block's, the others as they were, and i is at most 16 (written_more makes
-- it one more).
use Rattle.replies.specs.Laws.{Copied}
use Rattle.capi_block.proofs.block.save.Given as goal

abbrev pub invariant-loop-i : goal.invariant-loop-i
invariant-loop-i l = Copied 16 l.b.bytes l.initial.block l.i l.block
