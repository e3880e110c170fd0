-- The draft of `render` holds the printed text, and the buffers are left as `used` says, by the verdict of `typecheck`: a refused sheet is told and not
-- run (rejected_reported), an accepted one is told with its run (accepted_reported). The run's answer depends on the lengths of the buffers alone, and these
-- are the largest, as in the definition of the print, by the precondition (buffers_largest).
use mathlib.Core.Path.{sym, ap, ◌∙◌}
use Rattle.typing.specs.Answers.{rejection_cause, rejection_place, verdict_model}
use Rattle.report.proofs.ReportLaws.{rejected_reported, accepted_reported, buffers_largest}
use Rattle.report.proofs.render.Goals as goal

pub returns-in-Err : goal.returns-in-Err
returns-in-Err c =
    rejected_reported c.args.sheet.now _ {c = rejection_cause c.in-Err.f} {p = rejection_place c.in-Err.f}
    (sym (ap verdict_model c.in-Err.is) ∙ c.typecheck.ensures)
    c.from.ensures c.refusal.ensures

pub returns-in-Ok : goal.returns-in-Ok
returns-in-Ok c =
    accepted_reported c.args.sheet.now _ (sym (ap verdict_model c.in-Ok.is) ∙ c.typecheck.ensures)
    (buffers_largest c.args.cells.now c.args.posts.now c.requires) c.run_accepted.ensures
