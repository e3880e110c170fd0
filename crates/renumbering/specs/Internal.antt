-- What the contracts of internal functions say, here and in the crates above. No reader of the public promise needs this file.
use Rattle.std.specs.Prelude.{List, ◌≡◌, ℕ, ◌<◌, get_or}
use Rattle.program.specs.Layout.{types, terms}
use Rattle.program.specs.declared.records.Counts.{Counts}
use Rattle.accessors.specs.Internal.{FormedSheet}
use Rattle.erasure.specs.Lean.{new_types, new_type, new_terms, new_term}
use Rattle.renumbering.specs.declared.numbers.Numbers.{Numbers}

-- the first so many entries of a list are the values of a function
pub record Tabulated (f : ℕ → ℕ) (l : List ℕ) (count : ℕ) : Type 0 where
  pub each : (x : ℕ) → x < count → get_or l x 0 ≡ f x

-- a type of a readable sheet, with the new numbers of those below it
pub record MergingType (s : List ℕ) (c : Counts) (l : List ℕ) (t : ℕ) : Type 0 where
  pub sheet : FormedSheet s c
  pub numbers : Tabulated (new_type s) l t
  pub inside : t < types s

-- and a lower one
pub record MergingPair (s : List ℕ) (c : Counts) (l : List ℕ) (t u : ℕ) : Type 0 where
  pub merging : MergingType s c l t
  pub below : u < t

pub record TypesNumbered (s : List ℕ) (y : Numbers 256) : Type 0 where
  pub table : Tabulated (new_type s) y.numbers (types s)
  pub count_is : y.count ≡ new_types s

pub record TermsNumbered (s : List ℕ) (m : Numbers 1024) : Type 0 where
  pub table : Tabulated (new_term s) m.numbers (terms s)
  pub count_is : m.count ≡ new_terms s

-- all new numbers of types, and of terms
pub record TypesReady (s : List ℕ) (c : Counts) (y : List ℕ) : Type 0 where
  pub sheet : FormedSheet s c
  pub table : Tabulated (new_type s) y (types s)

pub record TermsReady (s : List ℕ) (c : Counts) (y m : List ℕ) : Type 0 where
  pub types_ready : TypesReady s c y
  pub table : Tabulated (new_term s) m (terms s)
