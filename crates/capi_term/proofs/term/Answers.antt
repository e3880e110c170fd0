-- `term` returns 3 and leaves a list shorter than eight as it was (short_answer). In any other list `put` leaves the reply of `of_judged` (given), which is
-- the definition's, since `judging::judgement` tells what the definition tells.
use mathlib.Core.Path.{◌∙◌, ap}
use Rattle.replies.specs.Laws.{short_answer, given}
use Rattle.subterms.specs.Judging.{judging}
use Rattle.capi_term.specs.Entries.{term_reply}
use Rattle.capi_term.proofs.term.Goals as goal

pub returns-then-answer-lt-ANSWER_NUMBERS : goal.returns-then-answer-lt-ANSWER_NUMBERS
returns-then-answer-lt-ANSWER_NUMBERS c = short_answer c.args.answer.now c.if-answer-lt-ANSWER_NUMBERS.true (term_reply (judging c.args.sheet.now c.args.term))

pub returns : goal.returns
returns c =
    given c.args.answer.now c.if-answer-lt-ANSWER_NUMBERS.false (c.of_judged.ensures ∙ ap term_reply c.judgement.ensures)
    c.put.ensures
