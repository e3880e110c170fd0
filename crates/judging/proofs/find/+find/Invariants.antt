-- What falls is the number of the term that is there, and one more, or 0 of an absent child: a child has a lower number than its term.
use Rattle.places.proofs.PlaceLaws.{fuel}
use Rattle.judging.proofs.find.+find.Given as goal

abbrev pub decreases-find : goal.decreases-find
decreases-find l = fuel l.y
