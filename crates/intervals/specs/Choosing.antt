-- The sheet with other numbers, by its bytes. 02, W14: "Each term keeps one choice for the run; … for every such choice the plain run": it is the plain run of
-- the sheet whose number terms have the numbers chosen (SheetTheorems.antt: contains_plain).
use Rattle.std.specs.Prelude.{cond, List, ℕ, zero, suc, ◌+◌}
use Rattle.program.specs.Bytes.{with_word16}
use Rattle.program.specs.Layout.{terms, term_at}
use Rattle.intervals.specs.Pairs.{is_number}

-- In the records of the number terms among the first so many, `first` replaced. 01: "kind (1), small (1), first, second, third (2 each)".
unfoldable pub with_numbers_below : (ρ : (term : ℕ) → ℕ) → List ℕ → (count : ℕ) → List ℕ
with_numbers_below ρ s zero = s
with_numbers_below ρ s (suc t) = cond (is_number s t) (with_word16 (with_numbers_below ρ s t) (term_at s t + 2) (ρ t)) (with_numbers_below ρ s t)

unfoldable pub with_numbers : (ρ : (term : ℕ) → ℕ) → List ℕ → List ℕ
with_numbers ρ s = with_numbers_below ρ s (terms s)
