-- `piece` returns 3 and leaves a list shorter than eight as it was (short_answer). In any other list `put` leaves the reply of `of_located` (given), which
-- is the definition's (reply_is), since `piece::locate` tells the sheet's piece and the place of its record, which is near (near).
use Rattle.replies.specs.Laws.{short_answer, given}
use Rattle.capi_piece.specs.Entries.{piece_reply}
use Rattle.capi_piece.proofs.EntryLaws.{near, reply_is}
use Rattle.capi_piece.proofs.piece.Goals as goal

pub returns-then-answer-lt-ANSWER_NUMBERS : goal.returns-then-answer-lt-ANSWER_NUMBERS
returns-then-answer-lt-ANSWER_NUMBERS c = short_answer c.args.answer.now c.if-answer-lt-ANSWER_NUMBERS.true (piece_reply c.args.sheet.now)

pub of_located-requires : goal.of_located-requires
of_located-requires c = near c.args.sheet.now c.locate-x.ensures

pub returns : goal.returns
returns c =
    given c.args.answer.now c.if-answer-lt-ANSWER_NUMBERS.false
    (reply_is c.args.sheet.now c.locate-x.ensures c.of_located.ensures) c.put.ensures
