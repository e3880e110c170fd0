-- Each turn goes one cell behind, so that what is left of the walk leads to the same cell.
use mathlib.Core.Path.{◌≡◌}
use Prim.Native.Nat.{◌-◌}
use Rattle.stores.specs.Cells.{walk_of}
use Rattle.stores.proofs.cells.walk.Given as goal

abbrev pub invariant-loop : goal.invariant-loop
invariant-loop l = walk_of l.cells l.e (l.k - l.counter) ≡ walk_of l.cells l.env l.k
