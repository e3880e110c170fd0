-- `add` tells 27 of a line that there is not (past_lines), then 28 of a part outside the store (outside_answered), then 29 of a full queue (full_answered), and
-- leaves the queues. Else the job stands behind the others of its line (has_added), which has room for it.
use native.Mathlib.Omega.{arith}
use Rattle.queues.specs.Answers.{job_model}
use Rattle.queues.proofs.LineLaws.{past_lines, outside_answered, full_answered, has_added}
use Rattle.queues.proofs.state.Lines.add.Goals as goal

pub returns-then-at-ge-MAX_LINES : goal.returns-then-at-ge-MAX_LINES
returns-then-at-ge-MAX_LINES c =
    past_lines c.args.self.now c.args.line (job_model c.args.job) c.args.store.now
    c.if-at-ge-MAX_LINES.true

pub returns-then-not-inside : goal.returns-then-not-inside
returns-then-not-inside c =
    outside_answered c.args.self.now c.args.line (job_model c.args.job) c.args.store.now
    c.if-at-ge-MAX_LINES.false c.inside.ensures c.if-not-inside.true

pub returns-then-len-ge-MAX_JOBS : goal.returns-then-len-ge-MAX_JOBS
returns-then-len-ge-MAX_JOBS c =
    full_answered c.args.self.now c.args.line (job_model c.args.job) c.args.store.now
    c.if-at-ge-MAX_LINES.false c.inside.ensures c.if-not-inside.false _ (omega arith) c.len.result c.len.ensures
    c.if-len-ge-MAX_JOBS.true

pub returns : goal.returns
returns c =
    has_added c.args.self.now c.args.line (job_model c.args.job) c.args.store.now
    c.if-at-ge-MAX_LINES.false c.inside.ensures c.if-not-inside.false _ (omega arith) c.len.result c.len.ensures
    c.if-len-ge-MAX_JOBS.false c.push.new.self _ c.push.ensures
