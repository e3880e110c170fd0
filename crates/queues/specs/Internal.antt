-- What the contracts of the functions that add and serve call say. No reader of the public promises needs this file.
use Rattle.std.specs.Prelude.{Bool, true, false, List, [], ◌∷◌, ◌≡◌, ℕ, ◌<◌, ◌≤◌, length, Option, Some, None}
use Rattle.queues.specs.Queues.{max_lines, max_jobs, Job, queue_at, nobody, turn_at, turn_of}
use Rattle.queues.specs.Answers.{queue_model, lines_model}
use Rattle.queues.specs.declared.state.Queue.{Queue}
use Rattle.queues.specs.declared.state.Lines.{Lines}

abbrev pub has_job : List Job → Bool
has_job [] = false
has_job (j ∷ js) = true

pub record SizeIs (q : Queue) (n : ℕ) : Type 0 where
  pub size_is : n ≡ length (queue_model q)
  pub most : n ≤ max_jobs

-- the line that is served: it has a job
pub record NextLine (q : Lines) (line : ℕ) : Type 0 where
  pub below : line < max_lines
  pub has_job_holds : has_job (queue_at (lines_model q) line) ≡ true
  pub turn_is : turn_of (lines_model q) ≡ turn_at line (queue_at (lines_model q) line) (λ _. nobody)

-- or none
abbrev pub Next : Lines → Option ℕ → Type 0
Next q (Some line) = NextLine q line
Next q None = turn_of (lines_model q) ≡ nobody
