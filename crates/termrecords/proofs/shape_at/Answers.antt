-- Since the fields are right, the counts are the sheet's and the record that is read is that of term t, so that its shape is the definition's (shape_is).
use Rattle.program.proofs.Laws.Readable.{fields_ok}
use Rattle.accessors.specs.Internal.{term_inside}
use Rattle.termrecords.proofs.TermLaws.{shape_is}
use Rattle.termrecords.proofs.shape_at.Goals as goal

pub table_term-requires : goal.table_term-requires
table_term-requires c =
    term_inside c.args.s.now (fields_ok c.args.s.now c.requires.laid.none_found).terms_in c.args.c c.requires.laid.counts_are
    c.args.t c.requires.inside

pub returns : goal.returns
returns c =
    shape_is c.args.s.now c.args.c c.args.t c.requires.laid c.requires.inside c.table_term.ensures
    c.shape_of.ensures
