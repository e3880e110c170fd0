-- The operation on bytes is the definition's, on what `without` leaves.
use mathlib.Core.Path.{ap}
use Prim.Native.Nat.{ℕ}
use lib.Bits.{bit_or}
use Rattle.privileges.specs.Sets.{union}
use Rattle.blocks.specs.Block.{with_flag}
use Rattle.blocks.proofs.update.with_flag.Goals as goal

pub returns : goal.returns
unfolding with_flag union
returns c = ap (λ (m : ℕ). bit_or m c.args.flag) c.without.ensures
