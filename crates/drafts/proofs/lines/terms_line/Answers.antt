-- `terms_line` appends "terms " with the number, then the newline (chained). At most 27 bytes: 6 for the label, 20 for the number, 1 for the newline.
use native.Mathlib.Omega.{arith}
use Rattle.drafts.proofs.DraftLaws.{chained}
use Rattle.drafts.proofs.lines.terms_line.Goals as goal

pub returns : goal.returns
returns c = chained 27 (omega arith) c.labelled.ensures c.word.ensures
