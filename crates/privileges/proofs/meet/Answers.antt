-- `&` on words is the definition's meet: a privilege is in it if both sets have it.
use Rattle.std.proofs.Common.{rules}
use Rattle.privileges.specs.Sets.{meet}
use Rattle.privileges.proofs.meet.Goals as goal

pub returns : goal.returns
unfolding meet
returns c = search rules
