-- A store with no cell left is left alone; one with room gets the cell.
use Rattle.stores.proofs.CellLaws.{bind_full, bind_room}
use Rattle.stores.proofs.cells.bind.Goals as goal

pub returns-then-cells-made : goal.returns-then-cells-made
returns-then-cells-made c = bind_full _ _ _ _ c.if-cells-made.true

pub returns : goal.returns
returns c = bind_room _ _ _ _ c.if-cells-made.false c.put_cell.ensures
