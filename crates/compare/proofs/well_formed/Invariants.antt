-- `well_formed` asks for whole entries (not_whole) and then looks at the last byte of each. The invariant: the first k entries are well formed; the next is
-- (formed_more) or is not (above_one), and behind the last the record is (formed_all).
use Prim.Native.Nat.{◌*◌}
use Rattle.compare.proofs.CompareLaws.{Formed}
use Rattle.compare.proofs.well_formed.Given as goal

abbrev pub invariant-loop-k : goal.invariant-loop-k
invariant-loop-k l = Formed l.s (4 * l.k)
