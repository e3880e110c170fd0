-- The number is written as two bytes, the highest first, as `with_word16` says.
use mathlib.Core.Path.{◌≡◌, refl}
use Prim.Native.Nat.{◌/◌, ◌%◌}
use native.Mathlib.Omega.{arith}
use lib.ListN.{get_or}
use Rattle.program.specs.Bytes.{with_word16}
use Rattle.stores.proofs.cells.put16.Goals as goal

pub returns : goal.returns
unfolding with_word16
returns c =
    let high : get_or c.to_be_bytes.result 0 0 ≡ c.args.n / 256 = rw c.to_be_bytes.ensures (omega arith) in
    let low : get_or c.to_be_bytes.result 1 0 ≡ c.args.n % 256 = rw c.to_be_bytes.ensures (omega arith) in
    rw (high, low) refl
