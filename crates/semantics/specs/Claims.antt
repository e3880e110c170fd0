-- The words in which the theorems about runs speak of a sheet's terms: where 17 and 36 are told, which entries are of its channels, what a decision of a
-- run is about, and how large the counts are.
use Rattle.std.specs.Prelude.{List, [], ◌∷◌, ◌≡◌, ℕ, ◌*◌, ◌/◌, ◌<◌, ◌≤◌}
use Rattle.std.proofs.Math.Option.{some}
use Rattle.program.specs.Limits.{max_cells, max_posts, max_calls, max_evaluations}
use Rattle.program.specs.Layout.{terms, channels, guard_of, kind_byte, small}
use Rattle.program.specs.Formats.{If, Check, Test, Post, kind_of}
use Rattle.semantics.specs.Runs.{RunCounts}

-- what every entry of a list has
abbrev pub Each : {A : Type 0} → (A → Type 0) → List A → Type 0
Each E [] = Unit {0}
Each E (x ∷ xs) = E x × Each E xs

-- "17 refused check"; 02, W8: a guarded post "is refused by 17"
pub data MayRefuse (s : List ℕ) (t : ℕ) : Type 0 where
  at_check : kind_of (kind_byte s t) ≡ Check → MayRefuse s t
  at_guard : (p : ℕ) → kind_of (kind_byte s t) ≡ Post → guard_of s (small s t) ≡ some p → MayRefuse s t

-- one of the sheet's terms is an if
pub record IfAt (s : List ℕ) (t : ℕ) : Type 0 where
  pub a_term : t < terms s
  pub an_if : kind_of (kind_byte s t) ≡ If

-- "channel × 65,536 + number", of a channel that the sheet's version has
pub record OnChannel (s : List ℕ) (x : ℕ) : Type 0 where
  pub below : x < channels s * 65536

-- 02, W12: "each check, test and guard": term t asks for privilege p
pub data NamesAt (s : List ℕ) (t p : ℕ) : Type 0 where
  by_check : kind_of (kind_byte s t) ≡ Check → small s t ≡ p → NamesAt s t p
  by_test : kind_of (kind_byte s t) ≡ Test → small s t ≡ p → NamesAt s t p
  by_guard : kind_of (kind_byte s t) ≡ Post → guard_of s (small s t) ≡ some p → NamesAt s t p

-- a decision of a run: about a privilege that one of the sheet's terms asks for
pub record Decision (s : List ℕ) (t p : ℕ) : Type 0 where
  pub a_term : t < terms s
  pub queries : NamesAt s t p

-- How large the counts are that a run tells: a cell has eight of 65,536 bytes.
pub record Few (k : RunCounts) : Type 0 where
  pub calls_most : k.calls ≤ max_calls
  pub cells_most : k.cells ≤ max_cells / 8
  pub posts_most : k.posts ≤ max_posts
  pub saturated_most : k.saturated ≤ max_evaluations
