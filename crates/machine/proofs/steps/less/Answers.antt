-- All numbers agree on yes, all agree on no, or it is not decided: a law for each.
use Rattle.machine.proofs.StepLaws.{less_yes, less_no, less_undecided}
use Rattle.machine.proofs.steps.less.Goals as goal

pub returns-then-a_most-b : goal.returns-then-a_most-b
returns-then-a_most-b c = less_yes _ _ _ _ c.if-a_most-b.true c.boolean.ensures

pub returns-then-b_most-a : goal.returns-then-b_most-a
returns-then-b_most-a c = less_no _ _ _ _ c.if-a_most-b.false c.if-b_most-a.true c.boolean-then-b_most-a.ensures

pub returns : goal.returns
returns c = less_undecided _ _ _ _ c.if-a_most-b.false c.if-b_most-a.false c.undecided.ensures
