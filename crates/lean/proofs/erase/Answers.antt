-- `erase` answers and leaves what `erasure` says: the reader's refusal is the verdict and is told (unreadable_is, rejected_erasure), and a sheet that is
-- read has its own counts, as `erase_readable` requires (readable_counted).
use Rattle.std.proofs.lemmas.Result.{err_from_is_err_and}
use Rattle.typing.specs.declared.answer.Rejection.TheVariants.{Unreadable}
use Rattle.checker.proofs.VerdictLaws.{unreadable_is, readable_counted}
use Rattle.lean.proofs.EntryLaws.{rejected_erasure}
use Rattle.lean.proofs.erase.Goals as goal

pub erase_readable-requires : goal.erase_readable-requires
erase_readable-requires c =
    readable_counted c.args.sheet.now c.decode.ensures.answer_is c.in_ok-c.was
    c.decode.ensures.counts_are

pub returns-in_err-c : goal.returns-in_err-c
returns-in_err-c c =
    let p = err_from_is_err_and c.from_residual.result c.from_residual.ensures.1 in
    rw (p.1, p.2)
    (rejected_erasure c.args.sheet.now c.args.buffer.now (Unreadable _)
    (unreadable_is c.args.sheet.now c.decode.ensures.answer_is c.in_err-c.was))
