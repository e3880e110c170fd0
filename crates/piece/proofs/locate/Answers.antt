-- A refusal by the reader has no piece, and a sheet that is read is well-formed and has its own counts, as `locate_readable` requires.
use Rattle.checker.proofs.VerdictLaws.{readable_sheet}
use Rattle.piece.proofs.LocateLaws.{unreadable_located, readable_located}
use Rattle.piece.proofs.locate.Goals as goal

pub locate_readable-requires : goal.locate_readable-requires
locate_readable-requires c = readable_sheet c.args.sheet.now c.decode.ensures.answer_is c.in-Ok.is c.decode.ensures.counts_are

pub returns-in-Err : goal.returns-in-Err
returns-in-Err c = unreadable_located c.args.sheet.now c.decode.ensures.answer_is c.in-Err.is c.nowhere.ensures

pub returns-in-Ok : goal.returns-in-Ok
returns-in-Ok c = readable_located c.args.sheet.now c.decode.ensures.answer_is c.in-Ok.is c.locate_readable.ensures
