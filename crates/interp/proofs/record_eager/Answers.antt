-- A run that is not admitted answers the refusal and leaves every buffer and the record as they were (eager_refused); an admitted one is as `eager`
-- requires and answers as it does. An eager run has no frame store, so that the test of one is `true`.
use Rattle.std.proofs.lemmas.Result.{err_from_is_err_and}
use Rattle.interp.proofs.RunLaws.{eager_refused}
use Rattle.interp.proofs.record_eager.Goals as goal

pub eager-requires : goal.eager-requires
eager-requires c = c.in_ok-c.ensures

pub returns : goal.returns
returns c = c.eager.ensures

pub returns-in_err-c : goal.returns-in_err-c
returns-in_err-c c =
    let p = err_from_is_err_and c.from_residual.result c.from_residual.ensures.1 in
    rw (p.1, p.2) (eager_refused c.args.sheet.now c.args.start.now c.args.enforce c.args.cells.now c.args.posts.now
    c.args.noted.now c.args.calls c.args.depth _ c.in_err-c.ensures)
