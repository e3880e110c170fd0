-- What falls is `work_left`: the calls left, then the term's number. A child has a lower number and does not raise the calls left, the function of an action
-- stands one step below `eval` and that of a second operand two; `apply` has no term and stands below them all, and the body that it evaluates begins with
-- one call less.
use Rattle.evaluator.specs.Promises.{work_left}
use Rattle.evaluator.proofs.+evaluation.Given as goal

abbrev pub decreases-apply : goal.decreases-apply
decreases-apply l = work_left l.counters.now 0 0

abbrev pub decreases-eval : goal.decreases-eval
decreases-eval l = work_left l.counters.now l.t 3

abbrev pub decreases-eval_enable : goal.decreases-eval_enable
decreases-eval_enable l = work_left l.counters.now l.t 2

abbrev pub decreases-eval_first : goal.decreases-eval_first
decreases-eval_first l = work_left l.counters.now l.t 2

abbrev pub decreases-eval_second : goal.decreases-eval_second
decreases-eval_second l = work_left l.counters.now l.t 1

abbrev pub decreases-eval_tail : goal.decreases-eval_tail
decreases-eval_tail l = work_left l.counters.now l.t 2
