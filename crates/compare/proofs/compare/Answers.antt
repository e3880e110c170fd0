-- `compare` answers 34 for a record that is not well formed (malformed_unit, malformed_office), and else by the number of entries that `place` places: fewer
-- than the unit has (as_diverges) or all of them (as_fits), of which the office has as many at least (enough).
use native.Mathlib.Omega.{arith}
use mathlib.Core.Path.{sym, ◌∙◌}
use Rattle.compare.proofs.CompareLaws.{malformed_unit, malformed_office, as_diverges, as_fits, enough}
use Rattle.compare.proofs.compare.Goals as goal

pub returns-then-not-well_formed : goal.returns-then-not-well_formed
returns-then-not-well_formed c =
    malformed_unit c.args.unit.now c.args.office.now
    (sym c.if-not-well_formed.true ∙ c.well_formed-2.ensures)

pub returns-then-not-well_formed-2 : goal.returns-then-not-well_formed-2
returns-then-not-well_formed-2 c =
    malformed_office c.args.unit.now c.args.office.now
    (sym c.if-not-well_formed.false ∙ c.well_formed-2.ensures)
    (sym c.if-not-well_formed-2.true ∙ c.well_formed-3.ensures)

pub returns-then-placed-entries : goal.returns-then-placed-entries
returns-then-placed-entries c =
    as_diverges c.args.unit.now c.args.office.now
    (sym c.if-not-well_formed.false ∙ c.well_formed-2.ensures)
    (sym c.if-not-well_formed-2.false ∙ c.well_formed-3.ensures)
    c.count_matched-placed.ensures c.if-placed-entries.true

pub overflow_sub-result : goal.overflow_sub-result
overflow_sub-result c = omega (arith, enough c.args.unit.now c.args.office.now c.count_matched-placed.ensures c.if-placed-entries.false)

pub returns : goal.returns
returns c =
    as_fits c.args.unit.now c.args.office.now
    (sym c.if-not-well_formed.false ∙ c.well_formed-2.ensures)
    (sym c.if-not-well_formed-2.false ∙ c.well_formed-3.ensures)
    c.count_matched-placed.ensures c.if-placed-entries.false
