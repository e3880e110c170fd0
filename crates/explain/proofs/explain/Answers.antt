-- `explain` answers what `explanation` says: the reader's refusal is the verdict and is told (unreadable_is, rejected_explained), and a sheet that is read
-- has its own counts, as `explain_readable` requires (readable_counted).
use mathlib.Core.Path.{sym}
use Rattle.typing.specs.declared.answer.Rejection.TheVariants.{Unreadable}
use Rattle.checker.proofs.VerdictLaws.{unreadable_is, readable_counted}
use Rattle.explain.proofs.EntryLaws.{rejected_explained}
use Rattle.explain.proofs.explain.Goals as goal

pub explain_readable-requires : goal.explain_readable-requires
explain_readable-requires c = readable_counted c.args.sheet.now c.decode.ensures.answer_is c.in-Ok.is c.decode.ensures.counts_are

pub returns-in-Err : goal.returns-in-Err
returns-in-Err c =
    rejected_explained c.args.sheet.now c.args.privilege (Unreadable c.in-Err.f) (rw (sym c.into.ensures) c.without_chain.ensures)
    (unreadable_is c.args.sheet.now c.decode.ensures.answer_is c.in-Err.is)
