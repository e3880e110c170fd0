-- `put` copies the bytes one by one (pasted_more), and when the loop ends all are written (pasted_all).
use Rattle.leanwriting.proofs.WriteLaws.{pasted_more, pasted_all}
use Rattle.leanwriting.proofs.write.put.Goals as goal

pub loop-i-preserved : goal.loop-i-preserved
loop-i-preserved c = pasted_more c.args.buffer.now c.args.at c.args.bytes.now c.requires c.loop-i.i c.loop-i.invariant c.loop-i-test.true

pub returns : goal.returns
returns c = pasted_all c.args.buffer.now c.args.at c.args.bytes.now c.requires c.loop-i.i c.loop-i.invariant c.loop-i-test.false
