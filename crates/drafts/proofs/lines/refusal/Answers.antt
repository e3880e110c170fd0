-- The draft of `refusal` holds one line, appended to a blank draft (from_blank): "refused " with cause and place, then the newline (chained).
-- At most 53 bytes: 8 for the label, 44 for the two numbers and " at ", 1 for the newline.
use native.Mathlib.Omega.{arith}
use Rattle.drafts.proofs.DraftLaws.{chained, from_blank}
use Rattle.drafts.proofs.lines.refusal.Goals as goal

pub returns : goal.returns
returns c = from_blank c.new-d.ensures (chained 53 (omega arith) c.placed.ensures c.word.ensures)
