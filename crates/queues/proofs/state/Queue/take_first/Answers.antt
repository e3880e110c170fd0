-- `take_first` gives the first job and moves each of the others up a place (moved_more). When the loop ends, what is left is the queue without its first
-- job (one_less).
use native.Mathlib.Omega.{arith}
use Rattle.queues.proofs.QueueLaws.{moved_more, one_less}
use Rattle.queues.proofs.state.Queue.take_first.Goals as goal

pub loop-i-preserved : goal.loop-i-preserved
loop-i-preserved c =
    record {
      below = omega arith;
      moved = moved_more c.args.self.now.jobs c.loop-i.i (omega arith)
          (omega (arith, c.len-last.ensures.most)) c.loop-i.invariant.moved _;
    }

pub returns : goal.returns
returns c =
    one_less c.args.self.now c.len-last.result c.len-last.ensures c.loop-i.i (omega arith) c.requires c.loop-i.invariant
    c.loop-i-test.false _
