-- The draft of `accepted` holds the whole print of a run: the three lines of `acceptance`, then one line of outcome and counts (chained, then_held).
-- At most 209 bytes: 52 for `acceptance`, and 157 for the last line: 49 for the outcome and 107 for the counts, which are 156, and 1 for the newline.
use native.Mathlib.Omega.{arith}
use Rattle.drafts.proofs.DraftLaws.{chained, then_held}
use Rattle.drafts.proofs.lines.accepted.Goals as goal

pub returns : goal.returns
returns c =
    then_held 209 (omega arith) c.acceptance-d.ensures
    (chained 157 (omega arith) (chained 156 (omega arith) c.outcome.ensures c.counts.ensures)
    c.word.ensures)
