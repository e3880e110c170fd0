-- `placed` appends the label with the cause, then " at " with the place (chained). At most the label's length and 44 bytes: 4 for " at ", 20 for each
-- of the two numbers.
use native.Mathlib.Omega.{arith}
use Rattle.drafts.proofs.DraftLaws.{chained}
use Rattle.drafts.proofs.lines.placed.Goals as goal

pub returns : goal.returns
returns c = chained _ (omega arith) c.labelled.ensures c.labelled-2.ensures
