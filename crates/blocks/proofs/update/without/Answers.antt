-- The complement of a byte has the bits that the byte has not, so that `&` with it leaves what the definition leaves (without_is).
use Rattle.std.proofs.Common.{rules}
use Rattle.blocks.proofs.BlockLaws.{without_is}
use Rattle.blocks.proofs.update.without.Goals as goal

pub returns : goal.returns
returns c = without_is _ _ (search rules) (search rules)
