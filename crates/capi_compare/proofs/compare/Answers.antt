-- `compare` returns 3 and leaves the list as it was where a record is longer than 2^32 - 1 bytes (long_unit, long_office) or the list shorter than eight
-- (few_numbers). Else the number of the answer is one of entries and fits into 32 bits (few_entries), and `put` leaves the reply (given).
use Rattle.capi_compare.proofs.EntryLaws.{long_unit, long_office, few_numbers, few_entries, given}
use Rattle.capi_compare.proofs.compare.Goals as goal

pub returns-then-unit-gt-MAX_RECORD : goal.returns-then-unit-gt-MAX_RECORD
returns-then-unit-gt-MAX_RECORD c = long_unit c.args.unit.now c.args.office.now c.args.answer.now c.if-unit-gt-MAX_RECORD.true

pub returns-then-office-gt-MAX_RECORD : goal.returns-then-office-gt-MAX_RECORD
returns-then-office-gt-MAX_RECORD c = long_office c.args.unit.now c.args.office.now c.args.answer.now c.if-unit-gt-MAX_RECORD.false
    c.if-office-gt-MAX_RECORD.true

pub returns-then-answer-lt-ANSWER_NUMBERS : goal.returns-then-answer-lt-ANSWER_NUMBERS
returns-then-answer-lt-ANSWER_NUMBERS c =
    few_numbers c.args.unit.now c.args.office.now c.args.answer.now c.if-unit-gt-MAX_RECORD.false c.if-office-gt-MAX_RECORD.false
    c.if-answer-lt-ANSWER_NUMBERS.true

pub of_comparison-requires : goal.of_comparison-requires
of_comparison-requires c =
    few_entries c.args.unit.now c.args.office.now c.args.answer.now c.if-unit-gt-MAX_RECORD.false
    c.if-office-gt-MAX_RECORD.false
    c.compare-x.result c.compare-x.ensures

pub put-requires : goal.put-requires
put-requires c = c.if-answer-lt-ANSWER_NUMBERS.false

pub returns : goal.returns
returns c =
    given c.args.unit.now c.args.office.now c.args.answer.now c.if-unit-gt-MAX_RECORD.false c.if-office-gt-MAX_RECORD.false c.if-answer-lt-ANSWER_NUMBERS.false
    c.compare-x.result c.compare-x.ensures c.of_comparison.ensures c.put.ensures
