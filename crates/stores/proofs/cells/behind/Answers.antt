-- The cell behind a cell: none, one outside the store, and one inside.
use Rattle.stores.proofs.CellLaws.{behind_none, behind_out, behind_in}
use Rattle.stores.proofs.cells.behind.Goals as goal

pub returns-then-e-eq0 : goal.returns-then-e-eq0
returns-then-e-eq0 c = behind_none _ _ c.if-e-eq0.true

pub returns-then-cells-end : goal.returns-then-cells-end
returns-then-cells-end c = behind_out _ _ c.if-e-eq0.false c.if-cells-end.true

pub returns : goal.returns
returns c = behind_in _ _ c.if-e-eq0.false c.if-cells-end.false c.get16.ensures
