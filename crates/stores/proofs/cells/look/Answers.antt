-- A variable past the bindings is stuck; any other is what its cell holds.
use mathlib.Core.Path.{refl}
use Rattle.stores.proofs.CellLaws.{look_none, look_some}
use Rattle.stores.proofs.cells.look.Goals as goal

pub returns-then-e-eq0 : goal.returns-then-e-eq0
returns-then-e-eq0 c = record { answer_is = look_none _ _ _ _ _ c.walk-e.ensures c.if-e-eq0.true c.stop.ensures; store_is = refl }

pub returns : goal.returns
returns c =
    record {
      answer_is = look_some _ _ _ _ _ c.walk-e.ensures c.if-e-eq0.false c.cell_word.ensures;
      store_is = refl;
    }
