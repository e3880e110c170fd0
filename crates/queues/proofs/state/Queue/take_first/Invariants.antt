-- `take_first` gives the first job and moves each of the others up a place. The invariant: i is at most the last place in use, the first i places hold the
-- jobs of the places behind them, and the others are as they were (moved_more makes it one more).
use Rattle.queues.proofs.QueueLaws.{MovedUp}
use Rattle.queues.proofs.state.Queue.take_first.Given as goal

abbrev pub invariant-loop-i : goal.invariant-loop-i
invariant-loop-i l = MovedUp l.waiting l.last l.i l.self.jobs
