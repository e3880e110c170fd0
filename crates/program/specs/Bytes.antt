-- Numbers in bytes. 01, "The bytes of a sheet": "all numbers have their highest byte first". Past the end there are zeros.
use Rattle.std.specs.Prelude.{Bool, cond, List, ◌++◌, ℕ, ◌+◌, ◌*◌, ◌/◌, ◌%◌, ◌<◌, length, get_or, set, take, drop}

abbrev pub byte : List ℕ → (at : ℕ) → ℕ
byte s i = get_or s i 0

abbrev pub word16 : List ℕ → (at : ℕ) → ℕ
word16 s i = byte s i * 256 + byte s (i + 1)

abbrev pub word32 : List ℕ → (at : ℕ) → ℕ
word32 s i = word16 s i * 65536 + word16 s (i + 2)

-- a number's two bytes put at a place
unfoldable pub with_word16 : List ℕ → (at number : ℕ) → List ℕ
with_word16 s i n = set (set s i (n / 256)) (i + 1) (n % 256)

-- a list with others written over it from a place on
abbrev pub overwrite : List ℕ → (at : ℕ) → List ℕ → List ℕ
overwrite l at xs = take at l ++ xs ++ drop (at + length xs) l

-- no or yes as a number
abbrev pub bit : Bool → ℕ
bit b = cond b 1 0

-- what a slice of bytes holds
pub record Bytes (s : List ℕ) : Type 0 where
  pub below : (i : ℕ) → byte s i < 256
