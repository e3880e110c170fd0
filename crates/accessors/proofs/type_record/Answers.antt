-- One test decides whether the ten bytes at 11 + 4 * principals + 10 * t lie in the sheet: a record outside is all zeros (no_type_lem), one inside has
-- what stands there (a_type). Whether t is in the table is not asked. 11 are the first field's 5 bytes and the heads of the second and third, 3 each.
use Rattle.accessors.proofs.RecordLaws.{no_type_lem, a_type}
use Rattle.accessors.proofs.type_record.Goals as goal

pub returns-then-s-at : goal.returns-then-s-at
returns-then-s-at c = no_type_lem _ c.args.c _ c.if-s-at.true

pub returns : goal.returns
returns c = a_type _ c.args.c _ c.if-s-at.false c.be16.ensures c.be16-2.ensures c.be32.ensures
