-- What the contracts of internal functions say. No reader of the public promise needs this file.
use Rattle.std.specs.Prelude.{List, ℕ, ◌+◌, ◌*◌, ◌<◌, ◌≤◌, length}
use Rattle.program.specs.Layout.{types, terms}
use Rattle.program.specs.declared.records.Counts.{Counts}
use Rattle.accessors.specs.Internal.{FormedSheet}
use Rattle.erasure.specs.Lean.{new_types, new_terms, lean_sheet}
use Rattle.renumbering.specs.Internal.{TypesNumbered, TermsNumbered, TypesReady, TermsReady}
use Rattle.renumbering.specs.declared.numbers.Numbers.{Numbers}

-- ---- what writing a record asks
pub record NumberedType (s : List ℕ) (c : Counts) (y : List ℕ) (t : ℕ) : Type 0 where
  pub ready : TypesReady s c y
  pub inside : t < types s

pub record NumberedTerm (s : List ℕ) (c : Counts) (y m : List ℕ) (t : ℕ) : Type 0 where
  pub ready : TermsReady s c y m
  pub inside : t < terms s

pub record SheetReady (s : List ℕ) (c : Counts) (y : Numbers 256) (m : Numbers 1024) : Type 0 where
  pub sheet : FormedSheet s c
  pub types_numbered : TypesNumbered s y
  pub terms_numbered : TermsNumbered s m

-- ---- what writing to a place of the buffer asks
-- the records of the types that are kept, ten bytes each
pub record TypesPuttable (s : List ℕ) (c : Counts) (y buffer : List ℕ) (at : ℕ) : Type 0 where
  pub ready : TypesReady s c y
  pub room : at + 10 * new_types s ≤ length buffer

-- and of the terms, eight each
pub record TermsPuttable (s : List ℕ) (c : Counts) (y m buffer : List ℕ) (at : ℕ) : Type 0 where
  pub ready : TermsReady s c y m
  pub room : at + 8 * new_terms s ≤ length buffer

-- the whole sheet, at the front
pub record SheetPuttable (s : List ℕ) (c : Counts) (y : Numbers 256) (m : Numbers 1024) (buffer : List ℕ) : Type 0 where
  pub ready : SheetReady s c y m
  pub room : length (lean_sheet s) ≤ length buffer

-- ---- a list with others in place of those that stand at a place
