-- A refusal by the reader is told, and a sheet that is read is well-formed and has its own counts, as `judgement_readable` requires.
use Rattle.std.proofs.lemmas.Result.{err_from_is_err_and}
use Rattle.checker.proofs.VerdictLaws.{readable_sheet}
use Rattle.judging.proofs.JudgementLaws.{unreadable_judged, readable_judged}
use Rattle.judging.proofs.judgement.Goals as goal

pub judgement_readable-requires : goal.judgement_readable-requires
judgement_readable-requires c = readable_sheet c.args.sheet.now c.decode.ensures.answer_is c.in_ok-c.was c.decode.ensures.counts_are

pub returns-in_err-c : goal.returns-in_err-c
returns-in_err-c c =
    let p = err_from_is_err_and c.from_residual.result c.from_residual.ensures.1 in
    rw (p.1, p.2)
    (unreadable_judged c.args.sheet.now c.args.term c.decode.ensures.answer_is c.in_err-c.was)

pub returns : goal.returns
returns c =
    readable_judged c.args.sheet.now c.args.term c.decode.ensures.answer_is c.in_ok-c.was
    c.judgement_readable.ensures
