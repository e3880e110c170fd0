-- 02's numbers and values for each case of a serve's answer. `queues`, Answers, says how any struct of queues is read.
use Rattle.std.specs.Prelude.{List, [], ℕ, Option, Some, None, Result, Ok, Err}
use Rattle.semantics.specs.Runs.{Answer, refused}
use Rattle.interp.specs.Answers.{Run, run_model, buffers_of}
use Rattle.queues.specs.Answers.{lines_model}
use Rattle.queues.specs.declared.state.Lines.{Lines}
use Rattle.lines.specs.Serving as serving
use Rattle.lines.specs.Serving.{idle, answered}
use Rattle.lines.specs.declared.answer.Outside.{Outside}
use Rattle.lines.specs.declared.answer.Served.{Served}

-- "first by 28"; or what the run tells
abbrev pub job_answer : Result Run Outside → Answer
job_answer (Ok r) = run_model r
job_answer (Err o) = refused 28 0

-- "the answer says so"; or what became of the job
abbrev pub serve_model : Option Served → serving.ServeAnswer
serve_model None = idle
serve_model (Some r) = answered (job_answer r.answer)

-- 0 if none was served
abbrev pub served_line : Option Served → ℕ
served_line None = 0
served_line (Some r) = r.line

-- with the lines and what the buffers then hold
abbrev pub served_model : Option Served → Lines → (cells posts : List ℕ) → serving.Served
served_model r q cells posts = record { answer = serve_model r; line = served_line r; state = lines_model q; buffers = buffers_of cells posts [] }
