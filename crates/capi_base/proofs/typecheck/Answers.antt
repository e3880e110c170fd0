-- `typecheck` returns 3 and leaves a list shorter than eight as it was (short_answer). In any other list `put` leaves the reply of `of_verdict` (given),
-- which is the definition's, since `typecheck` gives the definition's verdict.
use Rattle.replies.specs.Replies.{verdict_reply, typecheck_reply}
use Rattle.replies.specs.Laws.{short_answer, given}
use mathlib.Core.Path.{◌∙◌, ap}
use Rattle.capi_base.proofs.typecheck.Goals as goal

pub returns-then-answer-lt-ANSWER_NUMBERS : goal.returns-then-answer-lt-ANSWER_NUMBERS
returns-then-answer-lt-ANSWER_NUMBERS c = short_answer c.args.answer.now c.if-answer-lt-ANSWER_NUMBERS.true (typecheck_reply c.args.sheet.now)

pub returns : goal.returns
returns c =
    given c.args.answer.now c.if-answer-lt-ANSWER_NUMBERS.false (c.of_verdict.ensures ∙ ap verdict_reply c.typecheck.ensures)
    c.put.ensures
