-- The number terms below t have their pairs, of which n are laid (laid_pair), and the other words are as they were (laid_other).
use Rattle.pairs.proofs.PairLaws.{LaidBelow}
use Rattle.pairs.proofs.lay_pairs.Given as goal

abbrev pub invariant-loop-t : goal.invariant-loop-t
invariant-loop-t l = LaidBelow l.s l.pairs l.initial.terms l.terms l.c.terms l.n l.t
