-- What the theorem about the runs of a sheet and of its lean sheet claims. 02, W9: "it ends or stops as the old one does, with the same posts and counts under
-- the same allowances and buffers; a stop tells the old term's new number."
use Rattle.std.specs.Prelude.{◌≡◌, ℕ}
use Rattle.semantics.specs.Runs.{Outcome, ended, stopped, Answer, refused, ran, After}
use Rattle.soundness.specs.Claims.{posts_of}

-- an answer with the terms that it tells renumbered
abbrev pub renumbered_outcome : (ℕ → ℕ) → Outcome → Outcome
renumbered_outcome ν (ended v) = ended v
renumbered_outcome ν (stopped cause at) = stopped cause (ν at)

abbrev pub renumbered : (ℕ → ℕ) → Answer → Answer
renumbered ν (refused c p) = refused c p
renumbered ν (ran o k) = ran (renumbered_outcome ν o) k

-- the second ends or stops as the first does, with the same counts and posts
pub record RenumberedRun (ν : ℕ → ℕ) (a b : After) : Type 0 where
  pub like_answer : b.answer ≡ renumbered ν a.answer
  pub same_posts : posts_of b ≡ posts_of a
