-- The register block by itself: 02, W2. A block is a list of 16 bytes, any of them. What a write does, which may run a sheet, is in `registers`, Writes.
use Rattle.std.specs.Prelude.{Bool, not, cond, ◌&&◌, List, [], ◌∷◌, ℕ, ◌/◌, ◌%◌, ◌^◌, leb, eqb}
use Rattle.std.specs.Int.Bits.{bit_and, bit_xor}
use Rattle.privileges.specs.Sets.{meet, union}
use Rattle.program.specs.Bytes.{byte, word16}
use Rattle.semantics.specs.Runs.{Ground, ground_bool, ground_num, ended, stopped, Answer, refused, ran, zeros}

-- "The block has 16, zero at first"
abbrev pub block_bytes : ℕ
block_bytes = 16

-- "An address above 15 is answered with 23"
abbrev pub max_address : ℕ
max_address = 15

abbrev pub new_block : List ℕ
new_block = zeros block_bytes

-- ---- a run

-- "4 and 5 calls allowance"
abbrev pub allowance : (block : List ℕ) → ℕ
allowance block = word16 block 4

-- what an answer puts into the status and into 2 and 6 to 11
pub record RunRegisters : Type 0 where
  pub flag : ℕ
  pub cause : ℕ
  pub value : ℕ
  pub calls : ℕ
  pub place : ℕ

-- "value (a boolean is 0 or 1)"
abbrev pub value_of : Ground → ℕ
value_of (ground_bool b) = cond b 1 0
value_of (ground_num n) = n

-- "status (bit 0 ended, bit 1 stopped, bit 2 refused)"; "what has no meaning in that answer becomes zero"
abbrev pub registers_of : Answer → RunRegisters
registers_of (ran (ended g) k) = record { flag = 2 ^ 0; cause = 0; value = value_of g; calls = k.calls; place = 0 }
registers_of (ran (stopped c t) k) = record { flag = 2 ^ 1; cause = c; value = 0; calls = k.calls; place = t }
registers_of (refused c p) = record { flag = 2 ^ 2; cause = c; value = 0; calls = 0; place = p }

-- a byte's bits that are not in another one (Laws: has_without)
unfoldable pub without : (status bits : ℕ) → ℕ
without m n = bit_xor m (bit_and m n)

-- "sets one status bit and clears the other two"
unfoldable pub with_flag : (status flag : ℕ) → ℕ
with_flag m flag = union (without m 7) flag

-- "Pairs have the highest byte first."
abbrev pub high : ℕ → ℕ
high n = n / 256

abbrev pub low : ℕ → ℕ
low n = n % 256

-- 0 command, 1 status, 2 cause, 3 mask, 4 and 5 allowance, 6 and 7 value, 8 and 9 calls made, 10 and 11 term or place; 12 to 15 are left
abbrev pub after_run : (block : List ℕ) → RunRegisters → List ℕ
after_run b t =
    0 ∷ with_flag (byte b 1) t.flag ∷ t.cause ∷ byte b 3 ∷ byte b 4 ∷ byte b 5
    ∷ high t.value ∷ low t.value ∷ high t.calls ∷ low t.calls ∷ high t.place ∷ low t.place
    ∷ byte b 12 ∷ byte b 13 ∷ byte b 14 ∷ byte b 15 ∷ []

-- ---- accesses

-- what an access answers
pub data ReadAnswer : Type 0 where
  read_byte : ℕ → ReadAnswer
  read_refused : (cause place : ℕ) → ReadAnswer

pub data WriteAnswer : Type 0 where
  write_done : WriteAnswer
  write_refused : (cause place : ℕ) → WriteAnswer

-- "An address above 15 is answered with 23"; no place is named, so it is 0
abbrev pub read_of : (block : List ℕ) (address : ℕ) → ReadAnswer
read_of b a = cond (leb a max_address) (read_byte (byte b a)) (read_refused 23 0)

-- "The interrupt is raised while status and mask share a bit." (Theorems: raised_exactly)
abbrev pub raised : (block : List ℕ) → Bool
raised b = not (eqb (meet (byte b 1) (byte b 3)) 0)

-- "3 to 5 keep what is written."
abbrev pub is_kept : (address : ℕ) → Bool
is_kept a = leb 3 a && leb a 5

-- the registers by what a write to them does
pub data Register : Type 0 where
  command status kept fixed absent : Register

abbrev pub register_at : (address : ℕ) → Register
register_at a = cond (eqb a 0) command (cond (eqb a 1) status (cond (leb a max_address) (cond (is_kept a) kept fixed) absent))
