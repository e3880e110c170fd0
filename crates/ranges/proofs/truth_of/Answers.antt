-- The payload 2 is undecided, and else it is a yes if it is not 0.
use Rattle.ranges.proofs.IntervalLaws.{is_undecided, is_yes, is_no}
use Rattle.ranges.proofs.truth_of.Goals as goal

pub returns-then-payload-eq2 : goal.returns-then-payload-eq2
returns-then-payload-eq2 c = is_undecided c.args.payload c.if-payload-eq2.true

pub returns-then-payload-gt0 : goal.returns-then-payload-gt0
returns-then-payload-gt0 c = is_yes c.args.payload c.if-payload-eq2.false c.if-payload-gt0.true

pub returns : goal.returns
returns c = is_no c.args.payload c.if-payload-gt0.false
