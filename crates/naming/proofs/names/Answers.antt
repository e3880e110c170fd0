-- A sheet that the decoder refuses is refused so (unreadable_naming); one that is read is well-formed and has its counts, and what is told of it is told of the
-- bytes (readable_naming).
use Rattle.std.proofs.lemmas.Result.{err_from_is_err_and}
use Rattle.checker.proofs.VerdictLaws.{readable_sheet}
use Rattle.naming.proofs.NamingLaws.{unreadable_naming, readable_naming}
use Rattle.naming.proofs.names.Goals as goal

pub names_readable-requires : goal.names_readable-requires
names_readable-requires c = readable_sheet c.args.sheet.now c.decode.ensures.answer_is c.in_ok-c.was c.decode.ensures.counts_are

pub returns-in_err-c : goal.returns-in_err-c
returns-in_err-c c =
    let p = err_from_is_err_and c.from_residual.result c.from_residual.ensures.1 in
    rw (p.1, p.2)
    (unreadable_naming c.args.sheet.now c.args.privilege c.decode.ensures.answer_is c.in_err-c.was)

pub returns : goal.returns
returns c =
    readable_naming c.args.sheet.now c.args.privilege c.decode.ensures.answer_is c.in_ok-c.was
    c.names_readable.ensures
