-- What the contracts of internal functions say. No reader of the public promise needs this file.
use Rattle.std.specs.Prelude.{List, ℕ, ◌<◌}
use Rattle.privileges.specs.Sets.{privilege_count}
use Rattle.program.specs.Layout.{terms}
use Rattle.program.specs.declared.records.Counts.{Counts}
use Rattle.accessors.specs.Internal.{FormedSheet}

-- a readable sheet with its counts, and a privilege
pub record NamingSheet (s : List ℕ) (c : Counts) (p : ℕ) : Type 0 where
  pub sheet : FormedSheet s c
  pub privilege : p < privilege_count

-- and a term
pub record NamingTerm (s : List ℕ) (c : Counts) (p t : ℕ) : Type 0 where
  pub of_sheet : NamingSheet s c p
  pub inside : t < terms s
