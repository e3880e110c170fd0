-- What a search finds, and what the loop of a search over a table keeps.
use Rattle.std.specs.Prelude.{Bool, ◌≡◌, ℕ, ◌-◌, ◌≤◌, Option, Some, None}
use Rattle.std.proofs.Math.Option.{Option as Maybe, none, some}
use Rattle.program.specs.Screening.{lowest}

abbrev pub found_model : Option ℕ → Maybe ℕ
found_model (Some x) = some x
found_model None = none

-- records 0 to t - 1 of a table of so many are right, so that from t on the search finds what the whole search finds
pub record Passed (ok : ℕ → Bool) (count n t : ℕ) : Type 0 where
  pub below : t ≤ n
  pub all : n ≡ count
  pub rest_is : lowest ok 0 n ≡ lowest ok t (n - t)
