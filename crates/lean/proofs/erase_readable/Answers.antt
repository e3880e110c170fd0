-- `erase_readable` answers and leaves what `erasure` says, by the verdict: a rejection is told and leaves the buffer (rejected_erasure), and an accepted sheet
-- is as `erase_accepted` says, for a sheet that is formed (sheet_of).
use mathlib.Core.Path.{sym, ap, ◌∙◌}
use Rattle.std.proofs.lemmas.Result.{err_from_is_err_and}
use Rattle.typing.specs.Answers.{verdict_model}
use Rattle.checker.proofs.VerdictLaws.{sheet_of}
use Rattle.lean.proofs.EntryLaws.{rejected_erasure}
use Rattle.lean.proofs.erase_readable.Goals as goal

pub erase_accepted-requires : goal.erase_accepted-requires
erase_accepted-requires c = sheet_of c.requires

pub returns-in_err-typecheck_readable : goal.returns-in_err-typecheck_readable
returns-in_err-typecheck_readable c =
    let p = err_from_is_err_and c.from_residual.result c.from_residual.ensures.1 in
    rw (p.1, p.2)
    (rejected_erasure c.args.s.now c.args.buffer.now _
    (sym (ap verdict_model c.in_err-typecheck_readable.was) ∙ c.typecheck_readable.ensures))
