-- `ranges` returns 3 and leaves everything as it was where the list is shorter than eight (short_answer). Else the buffers are as the run leaves them, and
-- the list holds the reply to its answer (given).
use mathlib.Core.List.{[]}
use mathlib.Core.Path.{ap}
use Rattle.semantics.specs.Runs.{eager, AfterOf}
use Rattle.intervals.specs.Intervals.{intervals}
use Rattle.interp.specs.Answers.{request_of, buffers_of}
use Rattle.replies.specs.Replies.{enforce_flag}
use Rattle.capi_ranges.proofs.EntryLaws.{short_answer, reply_fits, given}
use Rattle.capi_ranges.proofs.ranges.Goals as goal

pub returns-then-answer-lt-ANSWER_NUMBERS : goal.returns-then-answer-lt-ANSWER_NUMBERS
returns-then-answer-lt-ANSWER_NUMBERS c =
    short_answer c.args.sheet.now c.args.pairs.now (request_of eager (enforce_flag c.args.enforce) c.args.start.now
    c.args.calls
    c.args.depth) (buffers_of c.args.cells.now c.args.posts.now []) c.args.answer.now c.if-answer-lt-ANSWER_NUMBERS.true

pub of_run-requires : goal.of_run-requires
of_run-requires c =
    reply_fits c.args.sheet.now c.args.pairs.now
    (request_of eager (enforce_flag c.args.enforce) c.args.start.now c.args.calls c.args.depth)
    (buffers_of c.args.cells.now c.args.posts.now []) c.run-r.result (ap (λ (a : AfterOf intervals). a.answer) c.run-r.ensures)

pub put-requires : goal.put-requires
put-requires c = c.if-answer-lt-ANSWER_NUMBERS.false

pub returns : goal.returns
returns c =
    given c.args.sheet.now c.args.pairs.now
    (request_of eager (enforce_flag c.args.enforce) c.args.start.now c.args.calls c.args.depth)
    (buffers_of c.args.cells.now c.args.posts.now []) c.args.answer.now c.if-answer-lt-ANSWER_NUMBERS.false c.run-r.result
    c.run-r.ensures c.of_run.ensures c.put.ensures
