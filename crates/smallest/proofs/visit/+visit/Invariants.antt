-- What falls is the number of the term that is there, and one more, or 0 of an absent child: a child has a lower number than its term.
use Rattle.places.proofs.PlaceLaws.{fuel}
use Rattle.smallest.proofs.visit.+visit.Given as goal

abbrev pub decreases-visit : goal.decreases-visit
decreases-visit l = fuel l.y
