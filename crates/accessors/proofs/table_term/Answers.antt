-- All of the record of term t lies in the sheet, since the caller says so, and has what stands there (a_term). It begins after the first field's 5 bytes,
-- the heads of the next three, 3 each, the principals, the types and the terms before t.
use Rattle.accessors.proofs.RecordLaws.{a_term}
use Rattle.accessors.proofs.table_term.Goals as goal

pub returns : goal.returns
returns c =
    a_term _ c.args.c _ c.requires.in_table c.requires.in_sheet c.be16.ensures c.be16-2.ensures
    c.be16-3.ensures
