-- What the contract of an internal function says; no reader of an entry's promise needs it.
use Rattle.std.specs.Prelude.{List, ℕ, ◌<◌, ◌≤◌, length, Result}
use Rattle.replies.specs.Internal.{RunReplyFits}
use Rattle.interp.specs.Answers.{run_of, entries_of}
use Rattle.interp.specs.declared.answer.RecordedRun.{RecordedRun}
use Rattle.interp.specs.declared.answer.RunRefusal.{RunRefusal}

-- the counts and the number of entries fit into 32 bits
pub record RecordReplyFits (r : Result RecordedRun RunRefusal) : Type 0 where
  pub counts_small : RunReplyFits (run_of r)
  pub entries_small : entries_of r < 4294967296

-- and there is room for the nine numbers of an answer
pub record RecordReplyFitsIn (r : Result RecordedRun RunRefusal) (answer : List ℕ) : Type 0 where
  pub reply_fits : RecordReplyFits r
  pub room : 9 ≤ length answer
