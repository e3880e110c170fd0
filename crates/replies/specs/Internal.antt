-- What the contracts of internal functions say; no reader of an entry's promise needs it.
use Rattle.std.specs.Prelude.{List, [], ◌∷◌, ◌++◌, ◌≡◌, ℕ, drop, Result, Ok, Err}
use Rattle.program.specs.Answers.{decoding_cause, decoding_place}
use Rattle.program.specs.declared.answer.Refusal.{Refusal}
use Rattle.program.specs.declared.records.Counts.{Counts}
use Rattle.semantics.specs.Claims.{Few}
use Rattle.interp.specs.Answers.{counts_model, Run}
use Rattle.interp.specs.declared.answer.RunCounts.{RunCounts}
use Rattle.replies.specs.Replies as replies
use Rattle.replies.specs.Replies.{refusal}
use Rattle.replies.specs.declared.Reply.{Reply}

-- the reply in the words of Replies.antt
abbrev pub reply_model : Reply → replies.Reply
reply_model r = record { status = r.status; numbers = r.numbers }

abbrev pub of_decoded : Result Counts Refusal → replies.Reply
of_decoded (Ok c) = record { status = 0; numbers = 0 ∷ 0 ∷ 0 ∷ c.terms ∷ c.principals ∷ c.types ∷ 0 ∷ 0 ∷ [] }
of_decoded (Err f) = refusal (decoding_cause f) (decoding_place f)

-- what is told with the counts of a run
abbrev pub with_counts : (status cause place sort value : ℕ) → RunCounts → replies.Reply
with_counts status c p k v m = record { status = status; numbers = c ∷ p ∷ k ∷ v ∷ m.calls ∷ m.cells ∷ m.posts ∷ m.saturated ∷ [] }

-- the counts of a run that was not refused fit into 32 bits
abbrev pub RunReplyFits : Run → Type 0
RunReplyFits (Err f) = Unit {0}
RunReplyFits (Ok r) = Few (counts_model r.made)

-- the status is the reply's, its eight numbers stand at the front of the list, and the rest of the list is as it was
pub record Put (x : Reply) (before : List ℕ) (status : ℕ) (after : List ℕ) : Type 0 where
  pub status_is : status ≡ x.status
  pub list_is : after ≡ x.numbers ++ drop 8 before
