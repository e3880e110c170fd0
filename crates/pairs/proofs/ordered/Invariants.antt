-- The first i pairs are in order; one that is not decides (ordered_not).
use Rattle.pairs.proofs.PairLaws.{OrderedBelow}
use Rattle.pairs.proofs.ordered.Given as goal

abbrev pub invariant-loop-i : goal.invariant-loop-i
invariant-loop-i l = OrderedBelow l.pairs l.count l.i
