-- `eager` returns 3 and leaves everything as it was where the list is shorter than nine (short_answer). Else buffers and record are as the run leaves them,
-- and `put_nine` leaves the nine numbers (nine_written).
use mathlib.Core.List.{[]}
use Rattle.semantics.specs.Runs.{eager}
use Rattle.interp.specs.Answers.{request_of, buffers_of}
use Rattle.replies.specs.Replies.{enforce_flag}
use Rattle.capi_record.proofs.EntryLaws.{short_answer, reply_fits, nine_written}
use Rattle.capi_record.proofs.eager.Goals as goal

pub returns-then-answer-lt-LONG_ANSWER : goal.returns-then-answer-lt-LONG_ANSWER
returns-then-answer-lt-LONG_ANSWER c =
    short_answer c.args.sheet.now (request_of eager (enforce_flag c.args.enforce) c.args.start.now c.args.calls
    c.args.depth)
    (buffers_of c.args.cells.now c.args.posts.now []) c.args.noted.now c.args.answer.now c.if-answer-lt-LONG_ANSWER.true

pub put_nine-requires : goal.put_nine-requires
put_nine-requires c =
    let given-request = request_of eager (enforce_flag c.args.enforce) c.args.start.now c.args.calls c.args.depth in
    let given-buffers = buffers_of c.args.cells.now c.args.posts.now [] in
    record {
      reply_fits = reply_fits c.args.sheet.now given-request given-buffers c.args.noted.now c.record_eager-r.result
          c.record_eager-r.ensures;
      room = c.if-answer-lt-LONG_ANSWER.false;
    }

pub returns : goal.returns
returns c =
    nine_written c.args.sheet.now (request_of eager (enforce_flag c.args.enforce) c.args.start.now c.args.calls
    c.args.depth)
    (buffers_of c.args.cells.now c.args.posts.now []) c.args.noted.now c.record_eager-r.result
    c.record_eager-r.ensures c.args.answer.now c.if-answer-lt-LONG_ANSWER.false c.put_nine.ensures
