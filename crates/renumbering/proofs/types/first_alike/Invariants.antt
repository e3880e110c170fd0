-- The first lower type whose record becomes equal is found in ascending order: none below u does, so that the search from u on finds what the whole
-- search finds (Laws/Search).
use Rattle.renumbering.proofs.TypeLaws.{NoneAlikeBelow}
use Rattle.renumbering.proofs.types.first_alike.Given as goal

abbrev pub invariant-loop-u : goal.invariant-loop-u
invariant-loop-u l = NoneAlikeBelow l.s l.t l.u
