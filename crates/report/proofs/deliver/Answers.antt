-- `deliver` leaves a place that is shorter than the text as it was (too_short); else it copies the bytes of the text to the front (fitting).
use Rattle.std.proofs.Common.{ap, List, ◌++◌, ℕ, drop, length}
use Rattle.report.proofs.ReportLaws.{too_short, fitting}
use Rattle.report.proofs.deliver.Goals as goal

pub returns-then-text-n : goal.returns-then-text-n
returns-then-text-n c = too_short c.args.d.now c.args.text.now c.if-text-n.true

pub returns : goal.returns
returns c =
    fitting c.args.d.now c.args.text.now _ c.if-text-n.false
    (ap (λ (xs : List ℕ). xs ++ drop (length c.args.d.now) c.args.text.now) c.copy_from_slice.ensures.after)
