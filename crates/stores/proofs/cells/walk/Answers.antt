-- Each turn goes one cell behind, so that what is left of the walk leads to the same cell.
use native.Mathlib.Omega.{arith}
use mathlib.Core.Path.{◌≡◌, ap, ◌∙◌}
use Prim.Native.Nat.{◌+◌, ◌-◌}
use Rattle.stores.specs.Cells.{walk_of}
use Rattle.stores.proofs.CellLaws.{walk_more, walk_ends}
use Rattle.stores.proofs.cells.walk.Goals as goal

pub loop-preserved : goal.loop-preserved
loop-preserved c =
    let e : c.args.k - (c.loop.counter + 1) ≡ c.args.k - c.loop.counter - 1 = omega arith in
    ap (walk_of c.args.cells.now c.behind-e.result) e ∙ walk_more _ _ _ _ _ (omega (arith, c.loop-test.true)) c.behind-e.ensures c.loop.invariant

pub returns : goal.returns
returns c = walk_ends _ _ _ _ c.loop.invariant (omega (arith, c.loop-test.false))
