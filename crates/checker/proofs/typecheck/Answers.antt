-- A refusal by the reader is the verdict (unreadable_is). A sheet that is read has its own counts, as `typecheck_readable` requires (readable_counted),
-- and that gives the verdict.
use Rattle.std.proofs.lemmas.Result.{err_from_is_err_and}
use Rattle.checker.proofs.VerdictLaws.{unreadable_is, readable_counted}
use Rattle.checker.proofs.typecheck.Goals as goal

pub typecheck_readable-requires : goal.typecheck_readable-requires
typecheck_readable-requires c = readable_counted c.args.sheet.now c.decode.ensures.answer_is c.in_ok-c.was c.decode.ensures.counts_are

pub returns-in_err-c : goal.returns-in_err-c
returns-in_err-c c =
    let p = err_from_is_err_and c.from_residual.result c.from_residual.ensures.1 in
    rw (p.1, p.2)
    (unreadable_is c.args.sheet.now c.decode.ensures.answer_is c.in_err-c.was)
