-- The first t words are there, and the others zero, until all terms have theirs.
use Rattle.termtable.proofs.TableLaws.{Filled}
use Rattle.termtable.proofs.decode_terms.Given as goal

abbrev pub invariant-loop-t : goal.invariant-loop-t
invariant-loop-t l = Filled l.s l.c l.terms l.t
