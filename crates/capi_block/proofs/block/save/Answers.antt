-- `save` writes the block's 16 bytes to the list, one more each turn (written_more).
use native.Mathlib.Omega.{arith}
use Rattle.replies.specs.Laws.{written_more}
use Rattle.capi_block.proofs.block.save.Goals as goal

pub loop-i-preserved : goal.loop-i-preserved
loop-i-preserved c =
    written_more 16 c.args.b.bytes c.args.block.now c.loop-i.i (omega arith)
    c.loop-i.invariant (omega (arith, c.requires)) c.loop-i-test.true
