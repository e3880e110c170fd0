-- `|` on words is the definition's union: a privilege is in it if one of the sets has it.
use Rattle.std.proofs.Common.{rules}
use Rattle.privileges.specs.Sets.{union}
use Rattle.privileges.proofs.union.Goals as goal

pub returns : goal.returns
unfolding union
returns c = search rules
