-- `needs_line` appends "needs ", eight hexadecimal digits and the newline (chained). At most 15 bytes: 6 and 8, which are 14, and 1 for the newline.
use native.Mathlib.Omega.{arith}
use Rattle.drafts.proofs.DraftLaws.{chained}
use Rattle.drafts.proofs.lines.needs_line.Goals as goal

pub returns : goal.returns
returns c =
    chained 15 (omega arith) (chained 14 (omega arith) c.word.ensures c.hexadecimal.ensures)
    c.word-2.ensures
