-- `lazy` returns 3 and leaves a list shorter than eight, and the buffers, as they were (short_run). Else the buffers, with the frame store, are
-- as the definition's run leaves them, by the contract of `run_lazy`, and the list holds the reply to its answer (run_given). What `of_run` requires holds,
-- since a run that is not refused makes at most 4,096 calls, 8,192 cells and 256 posts (small).
use mathlib.Core.Path.{ap}
use Rattle.semantics.specs.Runs.{lazy, After, run}
use Rattle.interp.specs.Answers.{request_of, buffers_of}
use Rattle.replies.specs.Replies.{enforce_flag}
use Rattle.replies.specs.Laws.{short_run, run_given, small}
use Rattle.capi_base.proofs.lazy.Goals as goal

pub returns-then-answer-lt-ANSWER_NUMBERS : goal.returns-then-answer-lt-ANSWER_NUMBERS
returns-then-answer-lt-ANSWER_NUMBERS c =
    short_run c.args.answer.now c.if-answer-lt-ANSWER_NUMBERS.true (buffers_of c.args.cells.now c.args.posts.now c.args.frames.now)
    (run c.args.sheet.now (request_of lazy (enforce_flag c.args.enforce) c.args.start.now c.args.calls c.args.depth)
    (buffers_of c.args.cells.now c.args.posts.now c.args.frames.now))

pub of_run-requires : goal.of_run-requires
of_run-requires c =
    small c.args.sheet.now (request_of lazy (enforce_flag c.args.enforce) c.args.start.now c.args.calls c.args.depth)
    (buffers_of c.args.cells.now c.args.posts.now c.args.frames.now) c.run_lazy-r.result
    (ap (λ (a : After). a.answer) c.run_lazy-r.ensures)

pub returns : goal.returns
returns c =
    run_given c.args.answer.now c.if-answer-lt-ANSWER_NUMBERS.false (buffers_of c.args.cells.now c.args.posts.now c.args.frames.now) _
    (run c.args.sheet.now (request_of lazy (enforce_flag c.args.enforce) c.args.start.now c.args.calls c.args.depth)
    (buffers_of c.args.cells.now c.args.posts.now c.args.frames.now)) c.run_lazy-r.result c.of_run.ensures
    c.put.ensures c.run_lazy-r.ensures
