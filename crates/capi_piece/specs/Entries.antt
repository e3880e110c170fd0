-- What the entry for the smallest faulty piece returns and writes: a status and eight numbers. 02, W13.
use Rattle.std.specs.Prelude.{List, [], ◌∷◌, ℕ}
use Rattle.replies.specs.Replies.{Reply, refusal}
use Rattle.subterms.specs.Smallest.{Piece, smallest, no_piece, unreadable, piece_of, record_offset, record_length}

-- the fault's number, the term, its count of terms, and where its record begins in the sheet and how many bytes it has; all zero if there is no piece; or
-- the reader's refusal, by its cause and place
abbrev pub located : (cause term count at length : ℕ) → Reply
located c t n a l = record { status = 0; numbers = 0 ∷ 0 ∷ c ∷ t ∷ n ∷ a ∷ l ∷ 0 ∷ [] }

abbrev pub reply_to : List ℕ → Piece → Reply
reply_to s (smallest t n c p) = located c t n (record_offset s (smallest t n c p)) (record_length (smallest t n c p))
reply_to s no_piece = located 0 0 0 0 0
reply_to s (unreadable c p) = refusal c p

abbrev pub piece_reply : List ℕ → Reply
piece_reply s = reply_to s (piece_of s)
