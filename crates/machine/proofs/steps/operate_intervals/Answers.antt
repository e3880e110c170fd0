-- A sum goes from the sum of the lowest to that of the highest, a difference from the lowest less the highest to the highest less the lowest; less
-- is its own function.
use Rattle.machine.proofs.StepLaws.{interval_sum, interval_difference, interval_less}
use Rattle.machine.proofs.steps.operate_intervals.Goals as goal

pub returns-then-kind-eq11 : goal.returns-then-kind-eq11
returns-then-kind-eq11 c =
    interval_sum _ _ _ c.payload-x.ensures c.env-x_most.ensures c.payload-y.ensures c.env-y_most.ensures c.if-kind-eq11.true
    c.saturating_add.ensures c.saturating_add-then-kind-eq11.ensures c.interval.ensures

pub returns-then-kind-eq12 : goal.returns-then-kind-eq12
returns-then-kind-eq12 c =
    interval_difference _ _ _ c.payload-x.ensures c.env-x_most.ensures c.payload-y.ensures c.env-y_most.ensures
    c.if-kind-eq11.false c.if-kind-eq12.true c.saturating_sub.ensures c.saturating_sub-then-kind-eq12.ensures c.interval-then-kind-eq12.ensures

pub returns : goal.returns
returns c =
    interval_less _ _ _ c.payload-x.ensures c.env-x_most.ensures c.payload-y.ensures c.env-y_most.ensures c.if-kind-eq11.false
    c.if-kind-eq12.false c.less.ensures
