-- What the contracts of internal functions say; no reader of an entry's promise needs it.
use Rattle.std.specs.Prelude.{◌≡◌, Ok, Err}
use Rattle.semantics.specs.Claims.{Few}
use Rattle.interp.specs.Answers.{counts_model}
use Rattle.interp.specs.declared.answer.RunCounts.{RunCounts}
use Rattle.ranges.specs.Answers.{IntervalRun}

-- the counts fit into 32 bits, and no saturated result is among them
pub record Uncounted (m : RunCounts) : Type 0 where
  pub few : Few (counts_model m)
  pub none_saturated : m.saturated ≡ 0

abbrev pub IntervalReplyFits : IntervalRun → Type 0
IntervalReplyFits (Err f) = Unit {0}
IntervalReplyFits (Ok r) = Uncounted r.made
