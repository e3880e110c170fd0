-- The pairs of types that are known to be subtypes, as bits in a list of 32-bit words: that of b in the row of a, of eight words.
use Rattle.std.specs.Prelude.{Bool, true, List, ◌≡◌, ℕ, ◌+◌, ◌*◌, ◌/◌, ◌%◌, ◌<◌, length, get_or, set}
use Rattle.privileges.specs.Sets.{privilege_count, has, insert}
use Rattle.program.specs.Limits.{max_types}
use Rattle.program.specs.Layout.{Types, types_of}
use Rattle.program.specs.declared.records.Counts.{Counts}
use Rattle.typing.specs.Subtyping.{Subtype}
use Rattle.accessors.specs.Internal.{FormedSheet}

-- two types of a table, which has at most 256
pub record TypePair (a b : ℕ) : Type 0 where
  pub first_below : a < max_types
  pub second_below : b < max_types

abbrev pub word_index : (a b : ℕ) → ℕ
word_index a b = a * 8 + b / 32

unfoldable pub knows : List ℕ → (a b : ℕ) → Bool
knows l a b = has (b % 32) (get_or l (word_index a b) 0)

unfoldable pub with_pair : List ℕ → (a b : ℕ) → List ℕ
with_pair l a b = set l (word_index a b) (insert (b % 32) (get_or l (word_index a b) 0))

-- what is known is so
pub record Known (T : Types) (l : List ℕ) : Type 0 where
  pub long : length l ≡ max_types * 8
  pub fits : (a b : ℕ) → a < max_types → b < max_types → knows l a b ≡ true → Subtype T a b

-- a well-formed sheet with its own counts, and what is known of its types
pub record KnownSheet (s : List ℕ) (c : Counts) (l : List ℕ) : Type 0 where
  pub sheet : FormedSheet s c
  pub known : Known (types_of s) l

-- and a privilege
pub record KnownSheetPrivilege (s : List ℕ) (c : Counts) (l : List ℕ) (p : ℕ) : Type 0 where
  pub judging : KnownSheet s c l
  pub privilege : p < privilege_count

-- an answer as it is due, and what is known then
pub record Answered {A : Type 0} (T : Types) (answer due : A) (l : List ℕ) : Type 0 where
  pub is : answer ≡ due
  pub known : Known T l
