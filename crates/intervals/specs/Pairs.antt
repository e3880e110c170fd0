-- What each number term is known to lie between. 02, W14: "An eager run takes such a pair of 16-bit numbers for each number term of a version 1 sheet, in term
-- order". The pairs are lent as one list of numbers, lowest and highest in turn.
use Rattle.std.specs.Prelude.{Bool, true, cond, ◌&&◌, List, ℕ, zero, suc, ◌+◌, ◌*◌, leb, eqb, length, get_or}
use Rattle.program.specs.Layout.{version, terms, kind_byte}
use Rattle.semantics.specs.Domains.{Interpretation}
use Rattle.intervals.specs.Intervals.{Interval, interval, intervals}

-- 01: kind 1 is "number"
abbrev pub is_number : List ℕ → (t : ℕ) → Bool
is_number s t = eqb (kind_byte s t) 1

-- how many of the first so many terms are number terms
abbrev pub numbers_below : List ℕ → (count : ℕ) → ℕ
numbers_below s zero = 0
numbers_below s (suc t) = cond (is_number s t) 1 0 + numbers_below s t

abbrev pub pair_at : (pairs : List ℕ) (i : ℕ) → Interval
pair_at ps i = interval (get_or ps (2 * i) 0) (get_or ps (2 * i + 1) 0)

-- of a number term
abbrev pub pair_of : List ℕ → (pairs : List ℕ) (t : ℕ) → Interval
pair_of s ps t = pair_at ps (numbers_below s t)

-- the first so many pairs have no "lowest above its highest"
abbrev pub ordered : (pairs : List ℕ) (count : ℕ) → Bool
ordered ps zero = true
ordered ps (suc i) = leb (pair_at ps i).low (pair_at ps i).high && ordered ps i

-- "a wrong number of pairs, a lowest above its highest or a version 2 sheet is 35"
abbrev pub pairs_ok : List ℕ → (pairs : List ℕ) → Bool
pairs_ok s ps = eqb (version s) 1 && eqb (length ps) (2 * numbers_below s (terms s)) && ordered ps (numbers_below s (terms s))

-- a number term stands for its range
abbrev pub over_intervals : List ℕ → (pairs : List ℕ) → Interpretation
over_intervals s ps = record { domain = intervals; literal = λ at n. pair_of s ps at }
