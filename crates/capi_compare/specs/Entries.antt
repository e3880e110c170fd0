-- What the entry for a comparison returns and writes: a status and eight numbers. 02, W12.
use Rattle.std.specs.Prelude.{Bool, cond, ◌||◌, List, [], ◌∷◌, ℕ, ltb, length}
use Rattle.traces.specs.Comparing.{Comparison, refused, fits, diverges, comparison}
use Rattle.replies.specs.Replies.{Reply, refusal, not_done, replied}

-- 1 and the number missing, or 0 and the number of the unit's first entry up to which they do not occur; or the refusal's cause and place
abbrev pub compared_reply : (fits entries : ℕ) → Reply
compared_reply f n = record { status = 0; numbers = 0 ∷ 0 ∷ f ∷ n ∷ 0 ∷ 0 ∷ 0 ∷ 0 ∷ [] }

abbrev pub comparison_reply : Comparison → Reply
comparison_reply (refused c p) = refusal c p
comparison_reply (fits missing) = compared_reply 1 missing
comparison_reply (diverges entry) = compared_reply 0 entry

-- A number of entries is told in 32 bits, so that a record of 2^32 bytes or more is not held.
abbrev pub max_record : ℕ
max_record = 4294967295

abbrev pub long : List ℕ → Bool
long r = ltb max_record (length r)

-- A record that is too long, or a list for the answer of fewer than eight: 3; nothing is done, and nothing is written anywhere.
abbrev pub compare_call : (unit office answer : List ℕ) → Reply
compare_call u o answer = cond (long u || long o) (not_done answer) (replied answer (comparison_reply (comparison u o)))
