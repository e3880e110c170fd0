-- The measure is k, the number of digits to append: the recursive call asks for one fewer.
use Rattle.drafts.proofs.draft.+hexadecimal.Given as goal

abbrev pub decreases-hexadecimal : goal.decreases-hexadecimal
decreases-hexadecimal l = l.k
