-- From what the code stores to the block of specs/Block.antt.
use mathlib.Core.Bool.{Bool, true, false, not, ◌&&◌, ◌||◌, false≢true}
use mathlib.Core.List.{List, [], ◌∷◌}
use mathlib.Core.Path.{◌≡◌, refl, sym, ap, ◌∙◌}
use Prim.Native.Nat.{ℕ, zero, suc, ◌+◌, ◌-◌, ◌^◌, ◌<◌}
use native.Mathlib.Nat.{mod-eq_of_lt}
use native.Mathlib.Omega.{arith}
use lib.Bits.{bit_and, bit_xor, and_mask, xor_add_and}
use lib.ListN.{length, set, drop, drop_of_length-le}
use lib.Seq.{drop-cons}
use Rattle.privileges.specs.Sets.{has, meet}
use Rattle.privileges.specs.Laws.{has_meet, has_xor, has_ext}
use Rattle.program.specs.Bytes.{byte, with_word16}
use Rattle.blocks.specs.Block.{block_bytes, RunRegisters, without, with_flag, after_run}
use Rattle.blocks.specs.Laws.{has_without}

-- ---- bits
-- the complement of a byte flips its bits
complement : (x : ℕ) → x < 2 ^ 8 → 2 ^ 8 - 1 - x ≡ bit_xor x (2 ^ 8 - 1)
complement x h = omega (arith, xor_add_and x (2 ^ 8 - 1), and_mask x 8, mod-eq_of_lt {n = x} h)

flipped : (m b o : Bool) → (m && o) ≡ m → (m && (b && not o || not b && o)) ≡ (m && not b)
flipped true true true h = refl
flipped true false true h = refl
flipped true b false h = absurd (false≢true h)
flipped false b o h = refl

pub without_is : (m n : ℕ) → m < 2 ^ 8 → n < 2 ^ 8 → bit_and m (2 ^ 8 - 1 - n) ≡ without m n
unfolding meet
without_is m n h k =
    ap (bit_and m) (complement n k)
    ∙ has_ext (bit_and m (bit_xor n (2 ^ 8 - 1))) (without m n) λ q.
    has_meet q m (bit_xor n (2 ^ 8 - 1)) ∙ ap (λ (z : Bool). has q m && z) (has_xor q n (2 ^ 8 - 1))
    ∙ flipped (has q m) (has q n) (has q (2 ^ 8 - 1)) (sym (has_meet q m (2 ^ 8 - 1)) ∙ ap (has q) (and_mask m 8 ∙ mod-eq_of_lt h))
    ∙ sym (has_without q m n)

-- ---- a list of 16 by its elements
abbrev elements : List ℕ → (from count : ℕ) → List ℕ
elements b i zero = []
elements b i (suc n) = byte b i ∷ elements b (suc i) n

listed : (b : List ℕ) (i n : ℕ) → length b ≡ i + n → drop i b ≡ elements b i n
listed b i zero e = drop_of_length-le b {i = i} (omega arith)
listed b i (suc n) e = drop-cons b i 0 (omega arith) ∙ ap (λ (l : List ℕ). byte b i ∷ l) (listed b (suc i) n (omega arith))

-- ---- what the stores of a run leave
module _ (b : List ℕ) (t : RunRegisters) (size : length b ≡ block_bytes) where
  abbrev three : List ℕ → List ℕ
  three l = set (set (set l 0 0) 1 (with_flag (byte b 1) t.flag)) 2 t.cause

  abbrev stores : List ℕ → List ℕ
  stores l = with_word16 (with_word16 (with_word16 (three l) 6 t.value) 8 t.calls) 10 t.place

  stored_all : stores b ≡ after_run b t
  unfolding with_word16
  stored_all = ap stores (listed b 0 block_bytes size)

  pub run_stored : {flag : ℕ} {x y z : List ℕ} → flag ≡ with_flag (byte b 1) t.flag
      → x ≡ with_word16 (set (set (set b 0 0) 1 flag) 2 t.cause) 6 t.value → y ≡ with_word16 x 8 t.calls → z ≡ with_word16 y 10 t.place
      → z ≡ after_run b t
  run_stored e f g h =
      h ∙ ap (λ (l : List ℕ). with_word16 l 10 t.place) (g ∙ ap (λ (l : List ℕ). with_word16 l 8 t.calls) (f
      ∙ (λ i. with_word16 (set (set (set b 0 0) 1 (e i)) 2 t.cause) 6 t.value))) ∙ stored_all
