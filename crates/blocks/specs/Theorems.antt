-- What a reader may count on: after a run the status has one bit of three, cause, value, calls and term or place are read as they are told, what has no
-- meaning in the answer is zero, and the mask and the allowance are as they were; the interrupt is raised exactly while status and mask share a bit; and a
-- read gives the byte at any address up to 15.
use Rattle.std.specs.Prelude.{true, not, cond, List, ◌⊎◌, ◌↔◌, ◌≡◌, refl, ℕ, zero, suc, ◌^◌, ◌≤◌, ◌<◌, eqb}
use Rattle.std.proofs.Common.{true≢false, inl, inr, sym, ap, ◌∙◌, lt_of_le_of_lt, div-add-mod', arith, lit<, le-leb, ne_eqb}
use Rattle.std.proofs.lemmas.Nat.{and_le_l}
use Rattle.std.proofs.lemmas.Bool.{lt-leb, eqb-false, not-true}
use Rattle.privileges.specs.Sets.{has, meet}
use Rattle.privileges.specs.Booleans.{and_left, and_right, and_both}
use Rattle.privileges.specs.Laws.{has_none, has_meet}
use Rattle.program.specs.Bytes.{byte, word16}
use Rattle.semantics.specs.Runs.{Ground, ended, stopped, RunCounts, Answer, refused, ran}
use Rattle.blocks.specs.Block.{max_address, RunRegisters, registers_of, with_flag, after_run, read_byte, read_refused, read_of, raised}
use Rattle.blocks.specs.Laws.{flag_low, flag_high, SomeBit, NoBit, find_bit, no_bit}

-- ---- "It sets one status bit and clears the other two"
abbrev pub bit_of : Answer → ℕ
bit_of (ran (ended g) k) = 0
bit_of (ran (stopped c t) k) = 1
bit_of (refused c p) = 2

bit_small : (a : Answer) → bit_of a < 3
bit_small (ran (ended g) k) = lit< tt
bit_small (ran (stopped c t) k) = lit< tt
bit_small (refused c p) = lit< tt

flag_is : (a : Answer) → (registers_of a).flag ≡ 2 ^ bit_of a
flag_is (ran (ended g) k) = refl
flag_is (ran (stopped c t) k) = refl
flag_is (refused c p) = refl

-- of the bits 0 to 2 a status has this one and no other
pub record OneOfThree (status bit : ℕ) : Type 0 where
  pub below : bit < 3
  pub alone : (k : ℕ) → k < 3 → has k status ≡ eqb k bit

module _ (block : List ℕ) (a : Answer) where
  flagged : (k : ℕ) → has k (byte (after_run block (registers_of a)) 1) ≡ has k (with_flag (byte block 1) (2 ^ bit_of a))
  flagged k = ap (λ (f : ℕ). has k (with_flag (byte block 1) f)) (flag_is a)

  pub one_bit : OneOfThree (byte (after_run block (registers_of a)) 1) (bit_of a)
  one_bit = record { below = bit_small a; alone = λ k h. flagged k ∙ flag_low k (byte block 1) (bit_of a) h }

  -- the other five stay
  pub other_bits : (k : ℕ) → 3 ≤ k → has k (byte (after_run block (registers_of a)) 1) ≡ has k (byte block 1)
  other_bits k h = flagged k ∙ flag_high k (byte block 1) (bit_of a) h (bit_small a)

-- ---- "2 cause, … 6 and 7 value …, 8 and 9 calls made, 10 and 11 term or place … Pairs have the highest byte first."
-- what a block is read as; of its status, one_bit and other_bits say it
pub record Registers (block : List ℕ) (t : RunRegisters) : Type 0 where
  pub cause_is : byte block 2 ≡ t.cause
  pub value_is : word16 block 6 ≡ t.value
  pub calls_are : word16 block 8 ≡ t.calls
  pub place_is : word16 block 10 ≡ t.place

pub registers_hold : (block : List ℕ) (t : RunRegisters) → Registers (after_run block t) t
registers_hold block t = record {
  cause_is = refl;
  value_is = div-add-mod' t.value 256;
  calls_are = div-add-mod' t.calls 256;
  place_is = div-add-mod' t.place 256;
}

-- ---- "of 2 and 6 to 11, what has no meaning in that answer becomes zero"
module _ (block : List ℕ) where
  abbrev pub Zero : Answer → (address : ℕ) → Type 0
  Zero a at = byte (after_run block (registers_of a)) at ≡ 0

  -- an end has no cause and no term
  pub end_zeros : (g : Ground) (k : RunCounts) → Zero (ran (ended g) k) 2 × Zero (ran (ended g) k) 10 × Zero (ran (ended g) k) 11
  end_zeros g k = (refl, refl, refl)

  -- a stop has no value
  pub stop_zeros : (c t : ℕ) (k : RunCounts) → Zero (ran (stopped c t) k) 6 × Zero (ran (stopped c t) k) 7
  stop_zeros c t k = (refl, refl)

  -- a refusal has no value, and "no count is told"
  pub refusal_zeros : (c p : ℕ) → Zero (refused c p) 6 × Zero (refused c p) 7 × Zero (refused c p) 8 × Zero (refused c p) 9
  refusal_zeros c p = (refl, refl, refl, refl)

  -- "command reads as zero"
  pub command_zero : (a : Answer) → Zero a 0
  command_zero a = refl

-- ---- "3 to 5 keep what is written": a run leaves them
pub run_keeps : (block : List ℕ) (t : RunRegisters) (k : ℕ) → 3 ≤ k → k ≤ 5 → byte (after_run block t) k ≡ byte block k
run_keeps block t zero h l = absurd (omega arith)
run_keeps block t (suc zero) h l = absurd (omega arith)
run_keeps block t (suc (suc zero)) h l = absurd (omega arith)
run_keeps block t (suc (suc (suc zero))) h l = refl
run_keeps block t (suc (suc (suc (suc zero)))) h l = refl
run_keeps block t (suc (suc (suc (suc (suc zero))))) h l = refl
run_keeps block t (suc (suc (suc (suc (suc (suc k)))))) h l = absurd (omega arith)

-- ---- "The interrupt is raised while status and mask share a bit."
pub record Share (m n : ℕ) : Type 0 where
  pub bit : ℕ
  pub below : bit < 8
  pub in_first : has bit m ≡ true
  pub in_second : has bit n ≡ true

module _ (m n : ℕ) where
  met_share : SomeBit 8 (meet m n) → Share m n
  met_share w =
      let both = sym (has_meet w.0 m n) ∙ w.2 in
      record {
        bit = w.0;
        below = w.1;
        in_first = and_left (has w.0 m) (has w.0 n) both;
        in_second = and_right (has w.0 m) (has w.0 n) both;
      }

  share_met : m < 256 → (meet m n ≡ 0 → ⊥) → Share m n
  unfolding meet
  share_met h ne = go (find_bit 8 (meet m n))
    where
      go : SomeBit 8 (meet m n) ⊎ NoBit 8 (meet m n) → Share m n
      go (inl w) = met_share w
      go (inr f) = absurd (ne (no_bit 8 (meet m n) (lt_of_le_of_lt (and_le_l m n) h) f))

  share_not_zero : Share m n → meet m n ≡ 0 → ⊥
  share_not_zero w e =
      true≢false (sym (has_meet w.bit m n ∙ and_both w.in_first w.in_second) ∙ ap (has w.bit) e ∙ has_none w.bit)

pub raised_exactly : (block : List ℕ) → byte block 1 < 256 → (raised block ≡ true) ↔ Share (byte block 1) (byte block 3)
raised_exactly block h = (
  λ e. share_met (byte block 1) (byte block 3) h (eqb-false (meet (byte block 1) (byte block 3)) 0 (not-true _ e)),
  λ w. ap not (ne_eqb (meet (byte block 1) (byte block 3)) 0 (share_not_zero (byte block 1) (byte block 3) w)),
)

-- ---- "An address above 15 is answered with 23"
pub inside_read : (block : List ℕ) (a : ℕ) → a ≤ max_address → read_of block a ≡ read_byte (byte block a)
inside_read block a h = λ i. cond (le-leb a max_address h i) (read_byte (byte block a)) (read_refused 23 0)

pub absent_read : (block : List ℕ) (a : ℕ) → max_address < a → read_of block a ≡ read_refused 23 0
absent_read block a above = λ i. cond (lt-leb a max_address above i) (read_byte (byte block a)) (read_refused 23 0)
