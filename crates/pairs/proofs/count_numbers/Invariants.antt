-- n is the count below t, which a number term adds to (counted_yes).
use Rattle.pairs.proofs.PairLaws.{CountedBelow}
use Rattle.pairs.proofs.count_numbers.Given as goal

abbrev pub invariant-loop-t : goal.invariant-loop-t
invariant-loop-t l = CountedBelow l.s l.c.terms l.t l.n
