-- A run that is not admitted answers the refusal and leaves every buffer and the record as they were (lazy_refused); an admitted one is as `lazy`
-- requires and answers as it does. The frame store has 6,496 = 2 * (16 + 101 * 32) numbers: two for each of 16 start frames and of 32 for the root
-- and each of 100 open calls.
use Rattle.std.proofs.lemmas.Result.{err_from_is_err_and}
use Rattle.interp.proofs.RunLaws.{lazy_refused}
use Rattle.interp.proofs.record_lazy.Goals as goal

pub lazy-requires : goal.lazy-requires
lazy-requires c = c.in_ok-c.ensures

pub returns : goal.returns
returns c = c.lazy.ensures

pub returns-in_err-c : goal.returns-in_err-c
returns-in_err-c c =
    let p = err_from_is_err_and c.from_residual.result c.from_residual.ensures.1 in
    rw (p.1, p.2) (lazy_refused c.args.sheet.now c.args.start.now c.args.enforce c.args.cells.now c.args.posts.now
    c.args.noted.now c.args.calls c.args.depth c.args.frames.now _ c.in_err-c.ensures)
