-- Numbering without gaps: of the numbers from 0 on some are kept, in their old order.
use Rattle.std.specs.Prelude.{Bool, cond, List, [], ◌++◌, ℕ, zero, suc, ◌+◌}

-- How many of the first so many are kept. Of one that is kept this is its new number.
unfoldable pub kept_below : (ℕ → Bool) → (count : ℕ) → ℕ
kept_below keep zero = 0
kept_below keep (suc n) = kept_below keep n + cond (keep n) 1 0

-- the bytes of those that are kept, one after the other
unfoldable pub gather : (ℕ → Bool) → (ℕ → List ℕ) → (count : ℕ) → List ℕ
gather keep bytes zero = []
gather keep bytes (suc n) = gather keep bytes n ++ cond (keep n) (bytes n) []
