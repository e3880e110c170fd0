-- The shifts and masks of the code are the operations on sets.
use mathlib.Core.Bool.{Bool, true, false, not, ◌&&◌, ◌||◌, false≢true}
use mathlib.Core.Path.{◌≡◌, refl, sym, ap, ◌∙◌}
use Prim.Native.Nat.{ℕ, zero, suc, ◌-◌, ◌*◌, ◌/◌, ◌%◌, ◌^◌, ◌<◌}
use native.Mathlib.Nat.{mod-eq_of_lt, one-mul}
use native.Mathlib.Omega.{arith}
use lib.Bits.{bit_and, bit_or, bit_xor, and_mask, xor_add_and}
use lib.Dec.{eqb}
use lib.Pow.{pow-lt}
use Rattle.privileges.specs.Sets.{privilege_count, is_one, has, meet, insert, remove}
use Rattle.privileges.specs.Laws.{has_meet, has_xor, has_one, has_remove, has_ext}

is_one_eqb : (x : ℕ) → x < 2 → eqb x 1 ≡ is_one x
is_one_eqb zero h = refl
is_one_eqb (suc zero) h = refl
is_one_eqb (suc (suc x)) h = absurd (omega arith)

pub contains_is : (p m : ℕ) → eqb (bit_and (m / 2 ^ p) 1) 1 ≡ has p m
unfolding has
contains_is p m = ap (λ (z : ℕ). eqb z 1) (and_mask (m / 2 ^ p) 1) ∙ is_one_eqb (m / 2 ^ p % 2) (omega arith)

-- one shifted by p, as a word of 32 digits
shifted : (p : ℕ) → p < privilege_count → (1 * 2 ^ p) % 2 ^ 32 ≡ 2 ^ p
shifted p h = ap (λ (z : ℕ). z % 2 ^ 32) (one-mul (2 ^ p)) ∙ mod-eq_of_lt (pow-lt h)

pub insert_is : (p m : ℕ) → p < privilege_count → bit_or m ((1 * 2 ^ p) % 2 ^ 32) ≡ insert p m
unfolding insert
insert_is p m h = ap (λ (z : ℕ). bit_or m z) (shifted p h)

-- the complement of a word flips its digits
complement : (x : ℕ) → x < 2 ^ 32 → 2 ^ 32 - 1 - x ≡ bit_xor x (2 ^ 32 - 1)
complement x h = omega (arith, xor_add_and x (2 ^ 32 - 1), and_mask x 32, mod-eq_of_lt {n = x} h)

flipped : (m b o : Bool) → (m && o) ≡ m → (m && (b && not o || not b && o)) ≡ (not b && m)
flipped true true true h = refl
flipped true false true h = refl
flipped true b false h = absurd (false≢true h)
flipped false true o h = refl
flipped false false o h = refl

pub remove_is : (p m : ℕ) → p < privilege_count → m < 2 ^ 32 → bit_and m (2 ^ 32 - 1 - (1 * 2 ^ p) % 2 ^ 32) ≡ remove p m
unfolding meet
remove_is p m h k =
    ap (λ (z : ℕ). bit_and m (2 ^ 32 - 1 - z)) (shifted p h) ∙ ap (bit_and m) (complement (2 ^ p) (pow-lt h))
    ∙ has_ext (bit_and m (bit_xor (2 ^ p) (2 ^ 32 - 1))) (remove p m) λ q.
    has_meet q m (bit_xor (2 ^ p) (2 ^ 32 - 1)) ∙ ap (λ (z : Bool). has q m && z) (has_xor q (2 ^ p) (2 ^ 32 - 1))
    ∙ flipped (has q m) (has q (2 ^ p)) (has q (2 ^ 32 - 1)) (sym (has_meet q m (2 ^ 32 - 1)) ∙ ap (has q) (and_mask m 32 ∙ mod-eq_of_lt k))
    ∙ ap (λ (z : Bool). not z && has q m) (has_one q p) ∙ sym (has_remove q p m)
