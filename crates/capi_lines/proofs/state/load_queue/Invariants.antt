-- `load_queue` reads the jobs that wait on a line, at most eight. The invariant: the first k of them are read (job_more).
use Rattle.queues.specs.Answers.{queue_model}
use Rattle.capi_lines.proofs.StateLaws.{JobsRead}
use Rattle.capi_lines.proofs.state.load_queue.Given as goal

abbrev pub invariant-loop-k : goal.invariant-loop-k
invariant-loop-k l = JobsRead l.state l.line l.k (queue_model l.queue)
