-- What the entry for an explanation returns and writes: a status, eight numbers, and the chain in a lent list of at least 32 places. 02, W7.
use Rattle.std.specs.Prelude.{Bool, cond, ◌||◌, List, [], ◌∷◌, ◌++◌, ℕ, ltb, length, drop}
use Rattle.program.specs.Limits.{max_nesting}
use Rattle.replies.specs.Replies.{Reply, refusal, short, written, not_done, returned_reply}
use Rattle.chains.specs.Explaining.{Explained, explained, not_needed, refused, explanation}
use Rattle.chains.specs.Answers.{padded}

-- how many terms the chain has, 0 if the privilege is not needed; or the refusal's cause and place
abbrev pub chain_reply : (terms : ℕ) → Reply
chain_reply n = record { status = 0; numbers = 0 ∷ 0 ∷ 0 ∷ n ∷ 0 ∷ 0 ∷ 0 ∷ 0 ∷ [] }

abbrev pub explain_reply : Explained → Reply
explain_reply (explained l) = chain_reply (length l)
explain_reply not_needed = chain_reply 0
explain_reply (refused c p) = refusal c p

-- the first 32 places are the chain and then zeros; a refusal leaves the list
abbrev pub chain_after : Explained → (chain : List ℕ) → List ℕ
chain_after (explained l) chain = padded l ++ drop max_nesting chain
chain_after not_needed chain = padded [] ++ drop max_nesting chain
chain_after (refused c p) chain = chain

-- what an explanation returned and left
pub record ExplainLeft : Type 0 where
  pub reply : Reply
  pub chain : List ℕ

abbrev pub returned_explain : (status : ℕ) (answer chain : List ℕ) → ExplainLeft
returned_explain status answer chain = record { reply = returned_reply status answer; chain = chain }

abbrev pub explain_left : (answer chain : List ℕ) → Explained → ExplainLeft
explain_left answer chain e = record { reply = written (explain_reply e) answer; chain = chain_after e chain }

-- A list for the chain of fewer than 32 places, or one for the answer of fewer than eight: 3; nothing is done, and nothing is written anywhere.
abbrev pub narrow : (chain answer : List ℕ) → Bool
narrow chain answer = ltb (length chain) max_nesting || short answer

abbrev pub explain_call : (s : List ℕ) (p : ℕ) (chain answer : List ℕ) → ExplainLeft
explain_call s p chain answer = cond (narrow chain answer) (record { reply = not_done answer; chain = chain }) (explain_left answer chain (explanation s p))
