-- `names` returns 3 and leaves a list shorter than eight as it was (short_answer). In any other list `put` leaves the reply of `of_named` (given), which is the
-- definition's, since `naming::names` tells what the definition tells.
use mathlib.Core.Path.{◌∙◌, ap}
use Rattle.replies.specs.Laws.{short_answer, given}
use Rattle.irrelevance.specs.Naming.{naming}
use Rattle.capi_names.specs.Entries.{names_reply}
use Rattle.capi_names.proofs.names.Goals as goal

pub returns-then-answer-lt-ANSWER_NUMBERS : goal.returns-then-answer-lt-ANSWER_NUMBERS
returns-then-answer-lt-ANSWER_NUMBERS c =
    short_answer c.args.answer.now c.if-answer-lt-ANSWER_NUMBERS.true (names_reply (naming c.args.sheet.now c.args.privilege))

pub put-requires : goal.put-requires
put-requires c = c.if-answer-lt-ANSWER_NUMBERS.false

pub returns : goal.returns
returns c =
    given c.args.answer.now c.if-answer-lt-ANSWER_NUMBERS.false (c.of_named.ensures ∙ ap names_reply c.names.ensures)
    c.put.ensures
