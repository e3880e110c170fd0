-- Of the lines from the one that is due on, the first with a job is served (line_found); there is none if none of the four has one (none_at_all).
use mathlib.Core.Path.{sym, ◌∙◌}
use Rattle.queues.proofs.LineLaws.{none_at_first, line_found, none_more, none_at_all}
use Rattle.queues.proofs.state.Lines.in_turn.Goals as goal

pub loop-k-init : goal.loop-k-init
loop-k-init c = none_at_first c.args.self.now

pub returns-then-waits : goal.returns-then-waits
returns-then-waits c =
    line_found c.args.self.now c.loop-k.k c.loop-k-test.true c.loop-k.invariant
    (sym c.waits.ensures ∙ c.if-waits.true)

pub loop-k-preserved : goal.loop-k-preserved
loop-k-preserved c =
    none_more c.args.self.now c.loop-k.k c.loop-k-test.true c.loop-k.invariant
    (sym c.waits.ensures ∙ c.if-waits.false)

pub returns : goal.returns
returns c = none_at_all c.args.self.now c.loop-k.k c.loop-k-test.false c.loop-k.invariant
