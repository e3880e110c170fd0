-- A law for each end: an operand that is no number, two intervals, a sum that fits or is saturated, a difference that fits or is saturated, a comparison.
use Rattle.std.proofs.Common.{sym, ◌∙◌, arith}
use Rattle.machine.proofs.StepLaws.{operate_left, operate_right, operate_intervals, sum_fits, sum_over, difference_fits, difference_under, less_is}
use Rattle.machine.proofs.steps.operate.Goals as goal

pub returns-then-sort-ne1 : goal.returns-then-sort-ne1
returns-then-sort-ne1 c = operate_left _ _ _ _ _ (λ e. c.if-sort-ne1.true (c.sort.ensures ∙ e)) c.stop.ensures

pub returns-then-sort-ne1-2 : goal.returns-then-sort-ne1-2
returns-then-sort-ne1-2 c =
    operate_right _ _ _ _ _ (sym c.sort.ensures ∙ c.if-sort-ne1.false)
    (λ e. c.if-sort-ne1-2.true (c.sort-2.ensures ∙ e)) c.stop-then-sort-ne1-2.ensures

pub returns-then-counters : goal.returns-then-counters
returns-then-counters c =
    operate_intervals _ _ _ _ _ (sym c.sort.ensures ∙ c.if-sort-ne1.false) (sym c.sort-2.ensures ∙ c.if-sort-ne1-2.false)
    c.if-counters.true c.operate_intervals.ensures

pub returns-then-y-x : goal.returns-then-y-x
returns-then-y-x c =
    sum_fits _ _ _ _ _ (sym c.sort.ensures ∙ c.if-sort-ne1.false) (sym c.sort-2.ensures ∙ c.if-sort-ne1-2.false)
    c.if-counters.false c.payload-x.ensures
    c.payload-y.ensures c.if-kind-eq11.true (omega (arith, c.if-y-x.true))
    (omega (arith, c.payload-x.ensures)) c.number.ensures

pub returns-then-kind-eq11 : goal.returns-then-kind-eq11
returns-then-kind-eq11 c =
    sum_over _ _ _ _ _ (sym c.sort.ensures ∙ c.if-sort-ne1.false) (sym c.sort-2.ensures ∙ c.if-sort-ne1-2.false)
    c.if-counters.false c.payload-x.ensures
    c.payload-y.ensures c.if-kind-eq11.true c.if-y-x.false (omega (arith, c.payload-x.ensures))
    c.saturate.ensures.answer_is c.saturate.ensures.counters_are

pub returns-then-y-x-2 : goal.returns-then-y-x-2
returns-then-y-x-2 c =
    difference_fits _ _ _ _ _ (sym c.sort.ensures ∙ c.if-sort-ne1.false) (sym c.sort-2.ensures ∙ c.if-sort-ne1-2.false)
    c.if-counters.false c.payload-x.ensures c.payload-y.ensures
    c.if-kind-eq11.false c.if-kind-eq12.true
    c.if-y-x-2.true c.number-then-y-x-2.ensures

pub returns-then-kind-eq12 : goal.returns-then-kind-eq12
returns-then-kind-eq12 c =
    difference_under _ _ _ _ _ (sym c.sort.ensures ∙ c.if-sort-ne1.false) (sym c.sort-2.ensures ∙ c.if-sort-ne1-2.false)
    c.if-counters.false c.payload-x.ensures c.payload-y.ensures
    c.if-kind-eq11.false c.if-kind-eq12.true c.if-y-x-2.false
    c.saturate-then-kind-eq12.ensures.answer_is c.saturate-then-kind-eq12.ensures.counters_are

pub returns : goal.returns
returns c =
    less_is _ _ _ _ _ (sym c.sort.ensures ∙ c.if-sort-ne1.false) (sym c.sort-2.ensures ∙ c.if-sort-ne1-2.false)
    c.if-counters.false c.payload-x.ensures
    c.payload-y.ensures c.if-kind-eq11.false c.if-kind-eq12.false c.boolean.ensures
