-- The four writes are the definition's, which stands eight bytes wide in the store.
use native.Mathlib.Omega.{arith}
use Rattle.stores.specs.Cells.{cell_set}
use lib.ListN.{length-set}
use Rattle.stores.proofs.cells.put_cell.Goals as goal

pub put16-requires : goal.put16-requires
put16-requires c = simp length-set (omega arith)

pub put16-requires-2 : goal.put16-requires-2
put16-requires-2 c = omega (arith, simp length-set at c.put16.auto.s)

pub put16-requires-3 : goal.put16-requires-3
put16-requires-3 c = omega (arith, c.put16-2.auto.s, simp length-set at c.put16.auto.s)

pub shape_of-cells : goal.shape_of-cells
shape_of-cells c = omega (arith, c.put16-3.auto.s, c.put16-2.auto.s, simp length-set at c.put16.auto.s)

pub returns : goal.returns
unfolding cell_set
returns c =
    rw (c.put16-2.ensures, c.put16.ensures, c.sort.ensures, c.payload.ensures, c.env.ensures) at
    c.put16-3.ensures
