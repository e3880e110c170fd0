-- `explain_readable` answers what `explanation` says, by the verdict: a rejection is told (refused_explained), and the needs that a sheet is accepted with are
-- the root's (accepted_needs), as `explain_needs` requires.
use mathlib.Core.Path.{sym}
use Rattle.checker.proofs.VerdictLaws.{sheet_of}
use Rattle.explain.proofs.EntryLaws.{refused_explained, accepted_explained, accepted_needs}
use Rattle.explain.proofs.explain_readable.Goals as goal

pub explain_needs-requires : goal.explain_needs-requires
explain_needs-requires c = accepted_needs (sheet_of c.requires) c.typecheck_readable.ensures c.in-Ok.is

pub returns-in-Err : goal.returns-in-Err
returns-in-Err c =
    refused_explained c.args.s.now c.args.privilege c.typecheck_readable.ensures c.in-Err.is
    (rw (sym c.into.ensures) c.without_chain.ensures)

pub returns-in-Ok : goal.returns-in-Ok
returns-in-Ok c =
    accepted_explained c.args.s.now c.args.privilege c.typecheck_readable.ensures c.in-Ok.is
    c.explain_needs.ensures
