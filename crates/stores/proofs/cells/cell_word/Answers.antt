-- The word in a cell: one outside the store is zero, one inside is made of its three parts.
use native.Mathlib.Omega.{arith}
use Rattle.stores.proofs.CellLaws.{cell_outside, cell_inside}
use Prim.Native.Nat.{◌*◌, ◌-◌}
use Rattle.stores.proofs.cells.cell_word.Goals as goal

pub returns-then-cells-end : goal.returns-then-cells-end
returns-then-cells-end c = cell_outside _ _ c.if-cells-end.true

pub overflow_add-result : goal.overflow_add-result
overflow_add-result c = omega (arith, c.type_inv.cells (c.args.e * 8 - 8))

pub overflow_add-result-2 : goal.overflow_add-result-2
overflow_add-result-2 c = omega (arith, c.type_inv.cells (c.args.e * 8 - 8))

pub returns : goal.returns
returns c = cell_inside _ _ c.if-cells-end.false c.get16.ensures c.get16-2.ensures
