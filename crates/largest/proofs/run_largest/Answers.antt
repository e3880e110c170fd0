-- With the lengths asked for the answer is that of `run_eager`: what is screened first would turn that run back too (as_run). With others nothing is run: a
-- sheet that cannot be read gets its own refusal (as_unreadable), and a readable one 15 (as_buffers), since an empty stack is never 14.
use Rattle.std.proofs.lemmas.Result.{err_from_is_err_and}
use Rattle.largest.proofs.RunLaws.{as_run, as_unreadable, as_buffers}
use Rattle.largest.proofs.run_largest.Goals as goal

pub returns-then-right : goal.returns-then-right
returns-then-right c =
    as_run c.args.sheet.now c.args.calls c.args.cells.now c.args.posts.now c.args.right c.if-right.true
    c.run_eager.ensures

pub returns-in_err-decode : goal.returns-in_err-decode
returns-in_err-decode c =
    let p = err_from_is_err_and c.from_residual.result c.from_residual.ensures.1 in
    rw (p.1, p.2)
    (as_unreadable c.args.sheet.now c.args.calls c.args.cells.now c.args.posts.now c.args.right
    c.decode.ensures.answer_is c.in_err-decode.was)

pub returns : goal.returns
returns c =
    as_buffers c.args.sheet.now c.args.calls c.args.cells.now c.args.posts.now c.args.right
    c.decode.ensures.answer_is c.if-right.false c.in_ok-decode.was
