-- `serve` returns 3 and leaves everything as it was where the state has another length than 102 or the list is shorter than nine.
-- Else the buffers are as `serve` of the lines leaves them, the state as `keep_served` does, and the reply, which `put` leaves, is
-- followed by the line (serve_given).
use mathlib.Core.List.{[]}
use Rattle.interp.specs.Answers.{buffers_of}
use Rattle.queues.specs.Answers.{lines_model}
use Rattle.capi_lines.proofs.EntryLaws.{serve_given, small_answer}
use Rattle.capi_lines.proofs.serve.Goals as goal

pub of_served-requires : goal.of_served-requires
of_served-requires c =
    small_answer (lines_model c.load-lines.result) c.args.store.now (buffers_of c.args.cells.now c.args.posts.now [])
    c.serve-served.result c.serve-served.new.lines c.serve-served.ensures

pub returns : goal.returns
returns c =
    rw c.line_of.ensures (serve_given c.args.state.now c.args.answer.now c.args.store.now c.if-state-ne-STATE_NUMBERS.false c.if-answer-lt-LONG_ANSWER.false
    (buffers_of c.args.cells.now c.args.posts.now []) c.load-lines.result c.load-lines.ensures c.serve-served.result c.serve-served.new.lines
    c.serve-served.ensures c.keep_served.ensures c.of_served.ensures c.put-status.ensures)
