-- `explain` returns 3 and leaves everything as it was where the list for the chain is shorter than 32 (few_places) or the other shorter than eight
-- (few_numbers). Else the list is as `keep` leaves it, and `put` leaves the reply (given).
use Rattle.capi_explain.proofs.EntryLaws.{short_answer, few_places, few_numbers, listed, given}
use Rattle.capi_explain.proofs.explain.Goals as goal

pub returns-then-chain-lt-NESTING_PLACES : goal.returns-then-chain-lt-NESTING_PLACES
returns-then-chain-lt-NESTING_PLACES c =
    short_answer c.args.sheet.now c.args.privilege c.args.chain.now c.args.answer.now
    (few_places c.args.sheet.now c.args.privilege c.args.chain.now c.args.answer.now c.if-chain-lt-NESTING_PLACES.true)

pub returns-then-answer-lt-ANSWER_NUMBERS : goal.returns-then-answer-lt-ANSWER_NUMBERS
returns-then-answer-lt-ANSWER_NUMBERS c =
    short_answer c.args.sheet.now c.args.privilege c.args.chain.now c.args.answer.now
    (few_numbers c.args.sheet.now c.args.privilege c.args.chain.now c.args.answer.now c.if-chain-lt-NESTING_PLACES.false c.if-answer-lt-ANSWER_NUMBERS.true)

pub of_explained-requires : goal.of_explained-requires
of_explained-requires c = listed c.args.sheet.now c.args.privilege c.explain-e.result c.explain-e.ensures

pub returns : goal.returns
returns c =
    given c.args.sheet.now c.args.privilege c.args.chain.now c.args.answer.now c.if-chain-lt-NESTING_PLACES.false c.if-answer-lt-ANSWER_NUMBERS.false
    c.explain-e.result c.explain-e.ensures c.keep.ensures c.of_explained.ensures
    c.put.ensures
