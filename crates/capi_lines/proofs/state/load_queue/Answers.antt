-- `load_queue` reads the jobs that wait on a line (job_more), and no more than eight (queue_read_lem).
use native.Mathlib.Omega.{arith}
use Rattle.queues.specs.Answers.{job_model, queue_model}
use Rattle.capi_lines.proofs.StateLaws.{job_more, queue_read_lem}
use Rattle.capi_lines.proofs.state.load_queue.Goals as goal

pub loop-k-preserved : goal.loop-k-preserved
loop-k-preserved c =
    job_more c.args.state.now c.args.line c.loop-k.k (omega arith) (queue_model c.loop-k.queue) c.loop-k.invariant (job_model c.load_job.result)
    c.load_job.ensures (queue_model c.push.new.self) c.push.ensures

pub returns : goal.returns
returns c = queue_read_lem c.args.state.now c.args.line c.loop-k.k (omega arith) (queue_model c.loop-k.queue) c.loop-k.invariant
