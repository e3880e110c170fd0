-- Two tests decide whether term t has a record: t is in the table (no_term_lem past it), and the eight bytes at 14 + 4 * principals + 10 * types + 8 * t lie
-- in the sheet (cut_term past its end). Then it is read.
use native.Mathlib.Omega.{arith}
use Rattle.accessors.proofs.RecordLaws.{no_term_lem, cut_term}
use Rattle.accessors.proofs.term.Goals as goal
use Rattle.accessors.proofs.term.Goals.{then-c-t-via-then-c-t, then-c-t-via-else-c-t+then-s-at}

pub returns-then-c-t : goal.returns-then-c-t
returns-then-c-t c =
    elim c.then-c-t.branch [
      | then-c-t-via-then-c-t w ↦ no_term_lem _ c.args.c _ (omega (arith, w.if-c-t.true))
      | then-c-t-via-else-c-t+then-s-at w ↦ cut_term _ c.args.c _ w.if-c-t.false w.if-s-at.true
    ]

pub table_term-requires : goal.table_term-requires
table_term-requires c = record { in_table = c.if-c-t.false; in_sheet = c.if-s-at.false }

pub returns : goal.returns
returns c = c.table_term.ensures
