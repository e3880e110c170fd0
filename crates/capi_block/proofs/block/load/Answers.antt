-- `load` copies the list's 16 bytes, one more each turn (written_more).
use native.Mathlib.Omega.{arith}
use Rattle.semantics.specs.Runs.{zeros}
use Rattle.replies.specs.Laws.{written_more}
use Rattle.capi_block.proofs.block.load.Goals as goal

pub loop-i-preserved : goal.loop-i-preserved
loop-i-preserved c = written_more 16 c.args.block.now (zeros 16) c.loop-i.i c.requires c.loop-i.invariant (omega arith) c.loop-i-test.true
