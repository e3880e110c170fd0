-- `in_turn` asks each of the four lines in turn, from the one that is due. The invariant: none of those asked has a job, so that the line in turn is the
-- first that has one of those that are left (none_more).
use Rattle.queues.proofs.LineLaws.{NoneYet}
use Rattle.queues.proofs.state.Lines.in_turn.Given as goal

abbrev pub invariant-loop-k : goal.invariant-loop-k
invariant-loop-k l = NoneYet l.self l.k
