-- The shifted one is the set of the privilege.
use Rattle.privileges.proofs.Masks.{insert_is}
use Rattle.privileges.proofs.insert.Goals as goal

pub returns : goal.returns
returns c = insert_is _ _ c.requires
