-- `counts` appends calls, cells, posts and saturated results, each behind its label (chained). At most 107 bytes: 20 for each number, 7 for each of the first
-- three labels and 6 for the last; 54 is the bound for the first two, and 81 for the first three.
use native.Mathlib.Omega.{arith}
use Rattle.drafts.proofs.DraftLaws.{chained}
use Rattle.drafts.proofs.lines.counts.Goals as goal

pub returns : goal.returns
returns c =
    chained 107 (omega arith) (chained 81 (omega arith) (chained 54 (omega arith) c.labelled.ensures c.labelled-2.ensures)
    c.labelled-3.ensures) c.labelled-4.ensures
