-- What the entry for the judgement of one term returns and writes: a status and eight numbers.
use Rattle.std.specs.Prelude.{[], ◌∷◌}
use Rattle.replies.specs.Replies.{Reply, refusal}
use Rattle.subterms.specs.Judging.{JudgedTerm, typed_under, refused}

-- the term's type, the principal that it stands under, and its needs; or the refusal's cause and place
abbrev pub term_reply : JudgedTerm → Reply
term_reply (typed_under n τ N) = record { status = 0; numbers = 0 ∷ 0 ∷ τ ∷ n ∷ 0 ∷ 0 ∷ 0 ∷ N ∷ [] }
term_reply (refused c p) = refusal c p
