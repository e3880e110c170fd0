-- A run that is not admitted answers the refusal and leaves every buffer as it was (run_refused); an admitted one is as `run_admitted` requires and
-- answers as it does. An eager run has no frame store, so that the test of one is `true`.
use Rattle.std.proofs.lemmas.Result.{err_from_is_err_and}
use Rattle.ranges.proofs.IntervalLaws.{run_refused}
use Rattle.ranges.proofs.run.Goals as goal

pub run_admitted-requires : goal.run_admitted-requires
run_admitted-requires c = c.in_ok-c.ensures

pub returns : goal.returns
returns c = c.run_admitted.ensures

pub returns-in_err-c : goal.returns-in_err-c
returns-in_err-c c =
    let p = err_from_is_err_and c.from_residual.result c.from_residual.ensures.1 in
    run_refused c.args.sheet.now c.args.pairs.now c.args.start.now c.args.enforce c.args.cells.now
    c.args.posts.now c.args.calls c.args.depth p.1 p.2 c.in_err-c.ensures
