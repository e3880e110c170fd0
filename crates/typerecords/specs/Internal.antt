-- What the contracts of the functions that look at type records for the decoder say. No reader of the public promise needs this file.
use Rattle.std.specs.Prelude.{true, false, Option, Some, None, List, ◌≡◌, ℕ, zero, suc, ◌+◌, ◌*◌, ◌<◌, ◌≤◌, leb, length, get_or}
use Rattle.program.specs.Limits.{max_principals}
use Rattle.program.specs.Bytes.{byte}
use Rattle.program.specs.Layout.{types, type_at}
use Rattle.program.specs.Decoding.{shallow, type_ok}
use Rattle.program.specs.declared.records.Counts.{Counts}
use Rattle.accessors.specs.Internal.{Laid}

-- so many bytes as one number, lowest first
unfoldable pub le_word : List ℕ → (at width : ℕ) → ℕ
le_word s i zero = 0
le_word s i (suc n) = byte s i + 256 * le_word s (i + 1) n

-- the type table begins at `at`, and the record of type t lies in the sheet
pub record TableAt (s : List ℕ) (at t : ℕ) : Type 0 where
  pub begins : (u : ℕ) → at + 10 * u ≡ type_at s u
  -- 11 bytes of fields before it, and four for each principal
  pub near : at ≤ 11 + 4 * max_principals
  pub inside : at + 10 * t + 10 ≤ length s

-- and some of the types before it
pub record TypesBefore (s : List ℕ) (at t n : ℕ) : Type 0 where
  pub table : TableAt s at t
  pub earlier : n ≤ t

-- the list has the depths of the first so many types
pub record Depths (s d : List ℕ) (t : ℕ) : Type 0 where
  pub each : (u : ℕ) → u < t → (k : ℕ) → shallow s k u ≡ leb (get_or d u 0) k

-- a type of a sheet with these counts, and a list with the depths of the types before it
pub record DepthsBefore (s : List ℕ) (c : Counts) (d : List ℕ) (t : ℕ) : Type 0 where
  pub laid : Laid s c
  pub inside : t < types s
  pub depths : Depths s d t

pub record Deep (s : List ℕ) (t d : ℕ) : Type 0 where
  pub right : type_ok s t ≡ true
  pub deep : (k : ℕ) → shallow s k t ≡ leb d k

-- the depth that is answered, or none for a record at fault
abbrev pub DepthIs : List ℕ → ℕ → Option ℕ → Type 0
DepthIs s t (Some d) = Deep s t d
DepthIs s t None = type_ok s t ≡ false
