-- The test is the definition's: all of a is in b exactly if what the two have in common is a.
use Rattle.std.proofs.Common.{rules}
use Rattle.privileges.specs.Sets.{subset}
use Rattle.privileges.proofs.subset.Goals as goal

pub returns : goal.returns
unfolding subset
returns c = search rules
