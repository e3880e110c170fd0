-- The complement of the shifted one keeps every other privilege.
use Rattle.std.proofs.Common.{rules}
use Rattle.privileges.proofs.Masks.{remove_is}
use Rattle.privileges.proofs.remove.Goals as goal

pub returns : goal.returns
returns c = remove_is _ _ c.requires (search rules)
