-- A shift and a mask find the digit.
use Rattle.privileges.proofs.Masks.{contains_is}
use Rattle.privileges.proofs.contains.Goals as goal

pub returns : goal.returns
returns c = contains_is _ _
