-- `job_number` gives a part of the job that waits in a place, and 0 where none does (job_number_lem).
use native.Mathlib.Omega.{arith}
use Rattle.capi_lines.proofs.StateLaws.{job_number_lem}
use Rattle.capi_lines.proofs.state.job_number.Goals as goal

pub returns : goal.returns
returns c = job_number_lem c.args.lines.now c.args.i (omega arith) c.requires _ c.job_at-job.ensures c.part.ensures
