-- What the contracts of internal functions say; no reader of an entry's promise needs it.
use Rattle.std.specs.Prelude.{List, [], ◌∷◌, ◌≡◌, ℕ, ◌<◌, length, Option, Some, None, Result, Ok, Err}
use Rattle.queues.specs.Queues.{max_lines}
use Rattle.replies.specs.Replies.{Reply}
use Rattle.replies.specs.Internal.{RunReplyFits}
use Rattle.interp.specs.Answers.{Run}
use Rattle.lines.specs.declared.answer.Outside.{Outside}
use Rattle.lines.specs.declared.answer.Served.{Served}
use Rattle.capi_lines.specs.States.{state_numbers}

-- a status with a cause
abbrev pub cause_reply : (status cause : ℕ) → Reply
cause_reply status c = record { status = status; numbers = c ∷ 0 ∷ 0 ∷ 0 ∷ 0 ∷ 0 ∷ 0 ∷ 0 ∷ [] }

-- the counts of a job's run fit into 32 bits
abbrev pub JobReplyFits : Result Run Outside → Type 0
JobReplyFits (Ok r) = RunReplyFits r
JobReplyFits (Err o) = Unit {0}

abbrev pub ServeReplyFits : Option Served → Type 0
ServeReplyFits None = Unit {0}
ServeReplyFits (Some r) = JobReplyFits r.answer

-- the list of a state, and a line of it
pub record LineAt (state : List ℕ) (line : ℕ) : Type 0 where
  pub long : length state ≡ state_numbers
  pub inside : line < max_lines
