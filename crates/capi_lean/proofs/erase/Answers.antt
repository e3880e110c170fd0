-- `erase` returns 3 and leaves everything as it was where the list for the answer is shorter than eight (short_answer). Else the buffer is as `lean::erase`
-- leaves it, and `put` leaves the reply (given).
use Rattle.capi_lean.proofs.EntryLaws.{short_answer, given}
use Rattle.capi_lean.proofs.erase.Goals as goal

pub returns-then-answer-lt-ANSWER_NUMBERS : goal.returns-then-answer-lt-ANSWER_NUMBERS
returns-then-answer-lt-ANSWER_NUMBERS c = short_answer c.args.sheet.now c.args.lean.now c.args.answer.now c.if-answer-lt-ANSWER_NUMBERS.true

pub returns : goal.returns
returns c =
    given c.args.sheet.now c.args.lean.now c.args.answer.now c.if-answer-lt-ANSWER_NUMBERS.false c.erase.result c.erase.ensures
    c.of_erased.ensures c.put.ensures
