-- `count_matched` goes through the office's entries. The invariant: the unit's entries before byte i are placed among the office's first j, each as early as
-- it can be. The next is placed at j if the two are equal (placing_same) and further on if not (placing_other); the number is complete where either record
-- ends (placing_all, placing_end).
use Prim.Native.Nat.{◌*◌}
use Rattle.compare.proofs.CompareLaws.{Placing}
use Rattle.compare.proofs.count_matched.Given as goal

abbrev pub invariant-loop-j : goal.invariant-loop-j
invariant-loop-j l = Placing l.unit l.office l.i (4 * l.j)
