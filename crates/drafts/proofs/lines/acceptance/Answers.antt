-- The draft of `acceptance` holds the lines of terms, needs and type: the first is appended to a blank draft (from_blank), then the others (then_held).
-- At most 52 bytes: 27 for the terms and 15 for the needs, which are 42, and 10 for the type.
use native.Mathlib.Omega.{arith}
use Rattle.drafts.proofs.DraftLaws.{from_blank, then_held}
use Rattle.drafts.proofs.lines.acceptance.Goals as goal

pub returns : goal.returns
returns c =
    then_held 52 (omega arith) (then_held 42 (omega arith)
    (from_blank c.new-d.ensures c.terms_line.ensures) c.needs_line.ensures) c.type_line.ensures
