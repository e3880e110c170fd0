-- `labelled` appends the label, then the digits of n (chained). These are at most 20 (decimal_most), hence the bound: the label's length and 20.
use native.Mathlib.Omega.{arith}
use Rattle.drafts.proofs.DraftLaws.{chained}
use Rattle.text.specs.Theorems.{decimal_most}
use Rattle.drafts.proofs.lines.labelled.Goals as goal

pub returns : goal.returns
returns c = chained _ (omega (arith, decimal_most c.args.n)) c.word.ensures c.decimal.ensures
