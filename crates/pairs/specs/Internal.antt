-- What the contracts of this crate's functions say. No reader of a public promise needs this file.
use Rattle.std.specs.Prelude.{true, false, List, ◌≡◌, ℕ, ◌*◌, ◌<◌, ◌≤◌, length, get_or}
use Rattle.program.specs.Layout.{terms}
use Rattle.program.specs.Records.{CountsOf}
use Rattle.program.proofs.Laws.Readable.{WellFormed}
use Rattle.program.specs.declared.records.Counts.{Counts}
use Rattle.intervals.specs.Intervals.{Interval}
use Rattle.intervals.specs.Pairs.{is_number, numbers_below, pair_of}
use Rattle.termtable.specs.Table.{word_kind, word_first, word_second, TermWords}

-- a readable sheet with its counts, and a term
pub record TermOf (s : List ℕ) (c : Counts) (t : ℕ) : Type 0 where
  pub well_formed : WellFormed s
  pub counts : CountsOf s c
  pub inside : t < terms s

-- the words of its terms, and a pair for each of its number terms
pub record PairsFit (s : List ℕ) (c : Counts) (pairs words : List ℕ) : Type 0 where
  pub well_formed : WellFormed s
  pub counts : CountsOf s c
  pub decoded : TermWords s c words
  pub enough : 2 * numbers_below s (terms s) ≤ length pairs

-- the word of a number term that lies in a range
pub record IntervalEncoded (i : Interval) (x : ℕ) : Type 0 where
  pub kind_is : word_kind x ≡ 1
  pub lowest_is : word_first x ≡ i.low
  pub highest_is : word_second x ≡ i.high

-- of the first so many terms the number terms have their pairs; the other words are as they were
pub record PairsLaid (s pairs : List ℕ) (count : ℕ) (old new : List ℕ) : Type 0 where
  pub long : length new ≡ length old
  pub numbers : (t : ℕ) → t < count → is_number s t ≡ true → IntervalEncoded (pair_of s pairs t) (get_or new t 0)
  pub others : (t : ℕ) → (t < count → is_number s t ≡ false) → get_or new t 0 ≡ get_or old t 0
