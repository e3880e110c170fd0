-- What the entry that tells whether a sheet names a privilege returns and writes: a status and eight numbers. 02, W11.
use Rattle.std.specs.Prelude.{[], ◌∷◌}
use Rattle.replies.specs.Replies.{Reply, refusal}
use Rattle.irrelevance.specs.Naming.{Naming, refused, unnamed, named}

-- 1 and the lowest term that names it, or 0; or the refusal's cause and place
abbrev pub names_reply : Naming → Reply
names_reply (named t) = record { status = 0; numbers = 0 ∷ 0 ∷ 1 ∷ t ∷ 0 ∷ 0 ∷ 0 ∷ 0 ∷ [] }
names_reply unnamed = record { status = 0; numbers = 0 ∷ 0 ∷ 0 ∷ 0 ∷ 0 ∷ 0 ∷ 0 ∷ 0 ∷ [] }
names_reply (refused c p) = refusal c p
