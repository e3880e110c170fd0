-- `decode` returns 3 and leaves a list shorter than eight as it was (short_answer). In any other list `put` leaves the reply of `of_decoded` (given),
-- which is the definition's, since `decode` gives the definition's screening and the sheet's counts (decoded_as).
use Rattle.replies.specs.Replies.{decode_reply}
use Rattle.replies.specs.Laws.{short_answer, given, decoded_as}
use mathlib.Core.Path.{◌∙◌}
use Rattle.capi_base.proofs.decode.Goals as goal

pub returns-then-answer-lt-ANSWER_NUMBERS : goal.returns-then-answer-lt-ANSWER_NUMBERS
returns-then-answer-lt-ANSWER_NUMBERS c = short_answer c.args.answer.now c.if-answer-lt-ANSWER_NUMBERS.true (decode_reply c.args.sheet.now)

pub returns : goal.returns
returns c =
    given c.args.answer.now c.if-answer-lt-ANSWER_NUMBERS.false (c.of_decoded.ensures ∙ decoded_as c.args.sheet.now c.decode.result
    c.decode.ensures.answer_is c.decode.ensures.counts_are) c.put.ensures
