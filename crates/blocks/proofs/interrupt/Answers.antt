-- The operation on bytes is the definition's: `&` gives the bits that both have, and none is zero.
use Rattle.std.proofs.Common.{rules}
use Rattle.privileges.specs.Sets.{meet}
use Rattle.blocks.proofs.interrupt.Goals as goal

pub returns : goal.returns
unfolding meet
returns c = search rules
