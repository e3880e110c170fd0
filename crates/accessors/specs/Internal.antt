-- What is known of a sheet that is read, in contracts here and in the crates above, and what the contract of a read without a test says. No reader of the
-- public promise needs this file.
use Rattle.std.specs.Prelude.{List, ℕ, ◌+◌, ◌*◌, ◌<◌, ◌≤◌, length}
use Rattle.std.proofs.Common.{arith}
use Rattle.program.proofs.Laws.Readable.{WellFormed}
use Rattle.program.specs.Layout.{terms, term_at}
use Rattle.program.specs.Screening.{None}
use Rattle.program.specs.Decoding.{field_conditions, Readable}
use Rattle.program.specs.Records.{CountsOf}
use Rattle.program.specs.declared.records.Counts.{Counts}

-- a well-formed sheet with its own counts
pub record FormedSheet (s : List ℕ) (c : Counts) : Type 0 where
  pub well_formed : WellFormed s
  pub counts : CountsOf s c

-- a sheet that the decoder reads, with its own counts
pub record ReadableSheet (s : List ℕ) (c : Counts) : Type 0 where
  pub readable : Readable s
  pub counts : CountsOf s c

-- the fields are right, and these are their counts
pub record Laid (s : List ℕ) (c : Counts) : Type 0 where
  pub counts_are : CountsOf s c
  pub none_found : None (field_conditions s)

-- the record of term t is in its table, and all of it in the sheet
pub record TermInside (s : List ℕ) (c : Counts) (t : ℕ) : Type 0 where
  pub in_table : t < c.terms
  pub in_sheet : 14 + 4 * c.principals + 10 * c.types + 8 * t + 8 ≤ length s

-- so is each term of a sheet with its own counts in which the table of terms ends
pub term_inside : (s : List ℕ) → term_at s (terms s) ≤ length s → (c : Counts) → CountsOf s c → (t : ℕ) → t < terms s → TermInside s c t
term_inside s i c k t h = record {
  in_table = omega (arith, k.terms_are);
  in_sheet = omega (arith, i, k.principals_are, k.types_are);
}
