-- What the contracts of internal functions say; no reader of the entry's promise needs it.
use Rattle.std.specs.Prelude.{List, ◌++◌, ℕ, ◌≤◌, drop, Some, None, Ok, Err}
use Rattle.program.specs.Limits.{max_nesting}
use Rattle.typing.specs.Answers.{rejection_cause, rejection_place}
use Rattle.replies.specs.Replies.{Reply, refusal}
use Rattle.chains.specs.declared.answer.ExplanationRefusal.TheVariants.{Rejected, NoPrivilege}
use Rattle.chains.specs.Answers.{Explanation, chain_length}
use Rattle.capi_explain.specs.Entries.{chain_reply}

-- a chain has at most 32 terms
abbrev pub ExplanationReplyFits : Explanation → Type 0
ExplanationReplyFits x = chain_length x ≤ max_nesting

-- what is told of an answer
abbrev pub explanation_reply : Explanation → Reply
explanation_reply (Ok (Some n)) = chain_reply n
explanation_reply (Ok None) = chain_reply 0
explanation_reply (Err (Rejected f)) = refusal (rejection_cause f) (rejection_place f)
explanation_reply (Err NoPrivilege) = refusal 30 0

-- the list after an answer with these terms
abbrev pub chain_left : Explanation → (terms chain : List ℕ) → List ℕ
chain_left (Ok n) terms chain = terms ++ drop max_nesting chain
chain_left (Err f) terms chain = chain
