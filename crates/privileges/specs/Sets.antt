-- Sets of privileges as masks. 01, "The bytes of a sheet": "Bit k, worth 2^k, stands for privilege k, 0 to 31."
-- Nothing above this crate reasons about bits: `has` says which privileges a set holds, and Laws.antt what each operation does to them.
use Rattle.std.specs.Prelude.{Bool, true, false, ◌≡◌, ℕ, zero, suc, ◌/◌, ◌%◌, ◌^◌, eqb}
use Rattle.std.specs.Int.Bits.{bit_and, bit_or, bit_xor}

-- "privilege k, 0 to 31", the bits of a set
abbrev pub privilege_count : ℕ
privilege_count = 32

abbrev pub is_one : ℕ → Bool
is_one zero = false
is_one (suc n) = true

-- privilege p is in the set m: the binary digit of m that is worth 2^p is one
unfoldable pub has : (p m : ℕ) → Bool
has p m = is_one (m / 2 ^ p % 2)

unfoldable pub meet : (a b : ℕ) → ℕ
meet a b = bit_and a b

unfoldable pub union : (a b : ℕ) → ℕ
union a b = bit_or a b

unfoldable pub insert : (p m : ℕ) → ℕ
insert p m = bit_or m (2 ^ p)

unfoldable pub remove : (p m : ℕ) → ℕ
remove p m = bit_xor m (bit_and m (2 ^ p))

unfoldable pub subset : (a b : ℕ) → Bool
subset a b = eqb (bit_and a b) a

-- every privilege of the first set is in the second; `subset` decides it
infix 40 ◌⊆◌
pub record ◌⊆◌ (a b : ℕ) : Type 0 where
  pub all : (p : ℕ) → has p a ≡ true → has p b ≡ true
