-- The list has what the first t terms note: 0 for no parent, the parent for one, 65535 for several. A child is lower than its parent, so that it is
-- in the list of 1,024 and a parent is never 0 (links_more).
use Rattle.decoder.proofs.PlaceLaws.{ParentsNoted}
use Rattle.decoder.proofs.places.parents_of.Given as goal

abbrev pub invariant-loop-t : goal.invariant-loop-t
invariant-loop-t l = ParentsNoted l.s l.parents l.c.terms l.t
