-- Each turn passes one frame, from the innermost on: the principals of the first i frames are known, so that the others decide as the whole stack.
use mathlib.Core.Path.{◌≡◌}
use Prim.Native.Nat.{◌*◌}
use lib.ListN.{drop}
use Rattle.semantics.specs.Runs.{stack, principals_known}
use Rattle.interp.proofs.start.principals_known.Given as goal

abbrev pub invariant-loop-i : goal.invariant-loop-i
invariant-loop-i l = principals_known l.count (stack l.start) ≡ principals_known l.count (stack (drop (2 * l.i) l.start))
