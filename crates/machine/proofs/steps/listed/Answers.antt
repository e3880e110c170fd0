-- An interval's ends, or a channel and a number: the run's mode says which.
use Rattle.machine.proofs.StepLaws.{listed_interval, listed_plain}
use Rattle.machine.proofs.steps.listed.Goals as goal

pub returns-then-intervals : goal.returns-then-intervals
returns-then-intervals c =
    listed_interval _ _ _ c.entry.ensures c.if-intervals.true c.payload.ensures
    c.env.ensures

pub returns : goal.returns
returns c =
    listed_plain _ _ _ c.entry-2.ensures c.if-intervals.false c.small_of.ensures
    c.payload-2.ensures
