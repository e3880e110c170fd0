-- The bits that a status has after each operation on it, and the register that each address meets.
use Rattle.std.specs.Prelude.{Bool, true, false, not, cond, ◌&&◌, ◌||◌, ◌⊎◌, ◌≡◌, refl, ℕ, zero, suc, ◌%◌, ◌^◌, ◌≤◌, ◌<◌, leb, eqb}
use Rattle.std.proofs.Common.{inl, inr, sym, ap, ◌∙◌, lt_of_lt_of_le, arith, lit<, pow_mono, le-leb, ne_eqb}
use Rattle.std.proofs.Math.Nat.{div-eq_of_lt}
use Rattle.std.proofs.Math.Decide.{dec_lt, ℕ_discrete}
use Rattle.std.specs.Int.Bits.{bit_and}
use Rattle.std.proofs.lemmas.Bool.{lt-leb}
use Rattle.privileges.specs.Sets.{is_one, has, meet}
use Rattle.privileges.specs.Booleans.{and_both}
use Rattle.privileges.specs.Laws.{has_none, has_meet, has_union, has_xor, has_one, has_ext}
use Rattle.blocks.specs.Block.{max_address, without, with_flag, is_kept, Register, command, status, kept, fixed, absent, register_at}

-- ---- bits
less : (a b : Bool) → (a && not (a && b) || not a && (a && b)) ≡ (a && not b)
less true true = refl
less true false = refl
less false b = refl

pub has_without : (k m n : ℕ) → has k (without m n) ≡ (has k m && not (has k n))
unfolding without meet
has_without k m n =
    has_xor k m (bit_and m n) ∙ ap (λ (x : Bool). has k m && not x || not (has k m) && x) (has_meet k m n) ∙ less (has k m) (has k n)

-- a number below 2^j has no bit from j on
pub has_above : (j k m : ℕ) → m < 2 ^ j → j ≤ k → has k m ≡ false
unfolding has
has_above j k m h l = ap (λ (x : ℕ). is_one (x % 2)) (div-eq_of_lt (lt_of_lt_of_le h (pow_mono l)))

-- the bits 0 to 2 are worth 7
has_seven : (k : ℕ) → k < 3 → has k 7 ≡ true
unfolding has
has_seven zero h = refl
has_seven (suc zero) h = refl
has_seven (suc (suc zero)) h = refl
has_seven (suc (suc (suc k))) h = absurd (omega arith)

abbrev left_or_set : (old cleared set : Bool) → Bool
left_or_set a b c = a && not b || c

only_set : (a b : Bool) → left_or_set a true b ≡ b
only_set true b = refl
only_set false b = refl

only_left : (a : Bool) → left_or_set a false false ≡ a
only_left true = refl
only_left false = refl

module _ (k m j : ℕ) where
  has_flag : has k (with_flag m (2 ^ j)) ≡ left_or_set (has k m) (has k 7) (eqb k j)
  unfolding with_flag
  has_flag = has_union k (without m 7) (2 ^ j) ∙ (λ i. has_without k m 7 i || has_one k j i)

  pub flag_low : k < 3 → has k (with_flag m (2 ^ j)) ≡ eqb k j
  flag_low h = has_flag ∙ ap (λ (x : Bool). left_or_set (has k m) x (eqb k j)) (has_seven k h) ∙ only_set (has k m) (eqb k j)

  pub flag_high : 3 ≤ k → j < 3 → has k (with_flag m (2 ^ j)) ≡ has k m
  flag_high h l =
      has_flag ∙ (λ i. left_or_set (has k m) (has_above 3 k 7 (lit< tt) h i) (ne_eqb k j (λ e. omega (arith, e)) i)) ∙ only_left (has k m)

-- a bit below n that a number has, or none
abbrev pub SomeBit : (n m : ℕ) → Type 0
SomeBit n m = (k : ℕ) × (k < n) × (has k m ≡ true)

abbrev pub NoBit : (n m : ℕ) → Type 0
NoBit n m = (k : ℕ) → k < n → has k m ≡ false

pub find_bit : (n m : ℕ) → SomeBit n m ⊎ NoBit n m
find_bit zero m = inr (λ k h. absurd (omega (arith, h)))
find_bit (suc n) m = go (has n m) refl (find_bit n m)
  where
    go : (x : Bool) → has n m ≡ x → SomeBit n m ⊎ NoBit n m → SomeBit (suc n) m ⊎ NoBit (suc n) m
    go true e rest = inl (n, omega arith, e)
    go false e (inl w) = inl (w.0, omega (arith, w.1), w.2)
    go false e (inr f) = inr (λ k h. elim (ℕ_discrete k n) [ yes y ↦ ap (λ (z : ℕ). has z m) y ∙ e | no y ↦ f k (omega arith) ])

pub no_bit : (n m : ℕ) → m < 2 ^ n → NoBit n m → m ≡ 0
no_bit n m h f = has_ext m 0 (λ k. go k (dec_lt k n) ∙ sym (has_none k))
  where
    go : (k : ℕ) → Dec (k < n) → has k m ≡ false
    go k (yes l) = f k l
    go k (no l) = has_above n k m h (omega arith)

-- ---- addresses
never : (x : Bool) → (x && false) ≡ false
never true = refl
never false = refl

module _ (a : ℕ) where
  abbrev from_two : (inside keeps : Bool) → Register
  from_two x k = cond x (cond k kept fixed) absent

  past_status : 2 ≤ a → register_at a ≡ from_two (leb a max_address) (is_kept a)
  past_status h = λ i. cond (ne_eqb a 0 (λ e. omega arith) i) command (cond (ne_eqb a 1 (λ e. omega arith) i) status (from_two (leb a max_address) (is_kept a)))

  pub at_inside : 2 ≤ a → a ≤ max_address → register_at a ≡ cond (is_kept a) kept fixed
  at_inside h l = past_status h ∙ (λ i. from_two (le-leb a max_address l i) (is_kept a))

  pub at_kept : 3 ≤ a → a ≤ 5 → register_at a ≡ kept
  at_kept h l = at_inside (omega arith) (omega arith) ∙ (λ i. cond (and_both (le-leb 3 a h) (le-leb a 5 l) i) kept fixed)

  pub at_fixed : 6 ≤ a → a ≤ max_address → register_at a ≡ fixed
  at_fixed h l =
      at_inside (omega arith) l ∙ (λ i. cond ((ap (λ (x : Bool). leb 3 a && x) (lt-leb a 5 h) ∙ never (leb 3 a)) i) kept fixed)

  pub at_absent : max_address < a → register_at a ≡ absent
  at_absent h = past_status (omega arith) ∙ (λ i. from_two (lt-leb a max_address h i) (is_kept a))
