-- `serve` seeks the line whose turn it is, and tells that there is no job if there is none (nobody_served). Else the line's oldest job is taken out of its
-- queue. If its part lies outside the store it is 28 (outside_served), and if not it is run (run_served). Either way the line has had its turn. The place
-- has room for the posts made, since no run makes more than are left of the list (may_move).
use Rattle.std.proofs.Common.{arith, ◌∙◌}
use Rattle.lines.specs.Answers.{served_model}
use Rattle.lines.proofs.ServeLaws.{nobody_served, outside_served, run_served, may_move}
use Rattle.lines.proofs.serve.Goals as goal

pub returns-in_err-line : goal.returns-in_err-line
returns-in_err-line c =
    (λ i. served_model (c.from_residual.ensures i) c.args.lines.now c.args.cells.now c.args.posts.now)
    ∙ nobody_served c.args.lines.now c.args.store.now c.args.cells.now c.args.posts.now c.in_err-line.ensures

pub returns-then-not-inside : goal.returns-then-not-inside
returns-then-not-inside c =
    outside_served c.args.lines.now c.args.store.now c.args.cells.now c.args.posts.now c.in_ok-line.line c.in_ok-line.ensures
    c.take_turn-job.result c.take_turn-job.new.self c.take_turn-job.ensures.oldest c.take_turn-job.ensures.left c.inside.result
    c.inside.ensures c.if-not-inside.true

pub overflow_add-lines : goal.overflow_add-lines
overflow_add-lines c =
    let fits = may_move c.args.lines.now c.args.store.now c.args.cells.now c.args.posts.now c.in_ok-line.line c.in_ok-line.ensures
    c.take_turn-job.result c.take_turn-job.new.self c.take_turn-job.ensures.oldest c.take_turn-job.ensures.left c.run_job-run.result
    c.run_job-run.ensures (omega arith) (omega arith) in
    omega (arith, fits, c.posts_made.ensures)

pub returns : goal.returns
returns c =
    run_served c.args.lines.now c.args.store.now c.args.cells.now c.args.posts.now c.in_ok-line.line c.in_ok-line.ensures
    c.take_turn-job.result c.take_turn-job.new.self c.take_turn-job.ensures.oldest c.take_turn-job.ensures.left c.run_job-run.result
    c.run_job-run.ensures c.inside.result c.inside.ensures c.if-not-inside.false c.posts_made.result c.posts_made.ensures
