-- The laws of sets: which privileges each operation's set has, when two sets are equal, and inclusion.
use Rattle.std.specs.Prelude.{Bool, true, false, not, ◌&&◌, ◌||◌, ◌≡◌, refl, ℕ, zero, suc, ◌/◌, ◌%◌, ◌^◌, min, max, ◌<◌, ◌≤◌, eqb}
use Rattle.std.proofs.Common.{true≢false, sym, ap, ◌∙◌, ⊎_elim, div-one, pow-suc, mul_comm, lt_of_lt_of_le, lt_of_le_of_lt, arith, pow_mono, eqb-true, eq-eqb}
use Rattle.std.proofs.lemmas.Bool.{false≢true}
use Rattle.std.proofs.Math.Nat.{zero-min, min-zero, suc-min-suc, zero-max, max-zero, suc-max-suc, zero-div, div-div-eq-div-mul, div-eq_of_lt}
use Rattle.std.proofs.Math.Decide.{dec_lt}
use Rattle.std.proofs.Math.Arith.{bin_ind}
use Rattle.std.specs.Int.Bits.{bit_and, bit_or, bit_xor, differ, and_step, or_step, xor_step}
use Rattle.std.proofs.lemmas.Nat.{and_shr, or_shr, xor_shr, and_le_l, or_lt, xor_lt}
use Rattle.std.proofs.Math.Dec.{eqb-zero-suc, eqb-suc-zero, eqb-suc-suc}
use Rattle.std.proofs.Math.Pow.{pow-lt}
use Rattle.privileges.specs.Booleans.{or_left, or_right, or_cases, and_left, and_right, and_both, bool_ext}
use Rattle.privileges.specs.Sets.{privilege_count, is_one, has, meet, union, insert, remove, subset, ◌⊆◌}

-- ---- binary digits, one by one
is_one_min : (x y : ℕ) → is_one (min x y) ≡ (is_one x && is_one y)
is_one_min zero y = rw zero-min
is_one_min (suc x) zero = rw min-zero
is_one_min (suc x) (suc y) = rw suc-min-suc

is_one_max : (x y : ℕ) → is_one (max x y) ≡ (is_one x || is_one y)
is_one_max zero y = rw zero-max
is_one_max (suc x) zero = rw max-zero
is_one_max (suc x) (suc y) = rw suc-max-suc

is_one_differ : (x y : ℕ) → x < 2 → y < 2 → is_one (differ x y) ≡ (is_one x && not (is_one y) || not (is_one x) && is_one y)
is_one_differ zero zero h k = refl
is_one_differ zero (suc y) h k = refl
is_one_differ (suc x) zero h k = refl
is_one_differ (suc zero) (suc zero) h k = refl
is_one_differ (suc zero) (suc (suc y)) h k = absurd (omega arith)
is_one_differ (suc (suc x)) (suc y) h k = absurd (omega arith)

differ_lt : (x y : ℕ) → x < 2 → y < 2 → differ x y < 2
differ_lt zero y h k = k
differ_lt (suc x) zero h k = h
differ_lt (suc x) (suc y) h k = differ_lt x y (omega arith) (omega arith)

and_last : (x y : ℕ) → bit_and x y % 2 ≡ min (x % 2) (y % 2)
and_last x y = omega (arith, and_step x y)

or_last : (x y : ℕ) → bit_or x y % 2 ≡ max (x % 2) (y % 2)
or_last x y = omega (arith, or_step x y)

xor_last : (x y : ℕ) → bit_xor x y % 2 ≡ differ (x % 2) (y % 2)
xor_last x y = omega (arith, xor_step x y, differ_lt (x % 2) (y % 2) (omega arith) (omega arith))

has_first : (m : ℕ) → has zero m ≡ is_one (m % 2)
unfolding has
has_first m = ap (λ (x : ℕ). is_one (x % 2)) (div-one m)

has_next : (p m : ℕ) → has (suc p) m ≡ has p (m / 2)
unfolding has
has_next p m = ap (λ (x : ℕ). is_one (m / x % 2)) (pow-suc 2 p ∙ mul_comm (2 ^ p) 2) ∙ ap (λ (x : ℕ). is_one (x % 2)) (sym (div-div-eq-div-mul m 2 (2 ^ p)))

-- ---- membership, operation by operation
pub has_none : (p : ℕ) → has p 0 ≡ false
unfolding has
has_none p = ap (λ (x : ℕ). is_one (x % 2)) (zero-div (2 ^ p))

pub has_meet : (p a b : ℕ) → has p (meet a b) ≡ (has p a && has p b)
unfolding has meet
has_meet p a b =
    ap (λ (x : ℕ). is_one (x % 2)) (and_shr a b p) ∙ ap is_one (and_last (a / 2 ^ p) (b / 2 ^ p))
    ∙ is_one_min (a / 2 ^ p % 2) (b / 2 ^ p % 2)

pub has_union : (p a b : ℕ) → has p (union a b) ≡ (has p a || has p b)
unfolding has union
has_union p a b =
    ap (λ (x : ℕ). is_one (x % 2)) (or_shr a b p) ∙ ap is_one (or_last (a / 2 ^ p) (b / 2 ^ p))
    ∙ is_one_max (a / 2 ^ p % 2) (b / 2 ^ p % 2)

pub has_xor : (p a b : ℕ) → has p (bit_xor a b) ≡ (has p a && not (has p b) || not (has p a) && has p b)
unfolding has
has_xor p a b =
    ap (λ (x : ℕ). is_one (x % 2)) (xor_shr a b p) ∙ ap is_one (xor_last (a / 2 ^ p) (b / 2 ^ p))
    ∙ is_one_differ (a / 2 ^ p % 2) (b / 2 ^ p % 2) (omega arith) (omega arith)

-- the set of one privilege
pub has_one : (q p : ℕ) → has q (2 ^ p) ≡ eqb q p
has_one zero zero = has_first 1
has_one zero (suc p) = has_first (2 ^ suc p) ∙ ap is_one {x = 2 ^ suc p % 2} {y = 0} (omega (arith, pow-suc 2 p)) ∙ sym (eqb-zero-suc p)
has_one (suc q) zero = has_next q 1 ∙ has_none q ∙ sym (eqb-suc-zero q)
has_one (suc q) (suc p) =
    has_next q (2 ^ suc p) ∙ ap (has q) {x = 2 ^ suc p / 2} {y = 2 ^ p} (omega (arith, pow-suc 2 p)) ∙ has_one q p ∙ sym (eqb-suc-suc q p)

or_swap : (a b : Bool) → (a || b) ≡ (b || a)
or_swap true true = refl
or_swap true false = refl
or_swap false true = refl
or_swap false false = refl

pub has_insert : (q p m : ℕ) → has q (insert p m) ≡ (eqb q p || has q m)
unfolding insert union
has_insert q p m = has_union q m (2 ^ p) ∙ or_swap (has q m) (has q (2 ^ p)) ∙ ap (λ (x : Bool). x || has q m) (has_one q p)

less_common : (a b : Bool) → (a && not (a && b) || not a && (a && b)) ≡ (not b && a)
less_common true true = refl
less_common true false = refl
less_common false true = refl
less_common false false = refl

pub has_remove : (q p m : ℕ) → has q (remove p m) ≡ (not (eqb q p) && has q m)
unfolding remove meet
has_remove q p m =
    has_xor q m (bit_and m (2 ^ p))
    ∙ ap (λ (x : Bool). has q m && not x || not (has q m) && x) (has_meet q m (2 ^ p))
    ∙ less_common (has q m) (has q (2 ^ p)) ∙ ap (λ (x : Bool). not x && has q m) (has_one q p)

-- ---- two sets with the same privileges are equal
is_one_zero : (x : ℕ) → is_one x ≡ false → x ≡ 0
is_one_zero zero h = refl
is_one_zero (suc x) h = absurd (true≢false h)

is_one_same : (x y : ℕ) → x < 2 → y < 2 → is_one x ≡ is_one y → x ≡ y
is_one_same zero zero h k e = refl
is_one_same zero (suc y) h k e = absurd (false≢true e)
is_one_same (suc x) zero h k e = absurd (true≢false e)
is_one_same (suc x) (suc y) h k e = omega arith

no_privilege : (n : ℕ) → ((p : ℕ) → has p n ≡ false) → n ≡ 0
no_privilege = bin_ind (λ n. ((p : ℕ) → has p n ≡ false) → n ≡ 0) (λ h. refl)
    (λ n ih h. let e : n / 2 ≡ 0 = ih (λ p. sym (has_next p n) ∙ h (suc p)) in
    let z : n % 2 ≡ 0 = is_one_zero (n % 2) (sym (has_first n) ∙ h zero) in omega arith)

pub has_ext : (a b : ℕ) → ((p : ℕ) → has p a ≡ has p b) → a ≡ b
has_ext = bin_ind (λ a. (b : ℕ) → ((p : ℕ) → has p a ≡ has p b) → a ≡ b)
    (λ b h. sym (no_privilege b (λ p. sym (h p) ∙ has_none p)))
    (λ a ih b h. let e : a / 2 ≡ b / 2 = ih (b / 2) (λ p. sym (has_next p a) ∙ h (suc p) ∙ has_next p b) in
    let z : a % 2 ≡ b % 2 = is_one_same (a % 2) (b % 2) (omega arith) (omega arith) (sym (has_first a) ∙ h zero ∙ has_first b) in omega arith)

-- ---- sets of the privileges 0 to 31 are the numbers below 2^32
pub has_small : (p m : ℕ) → m < 2 ^ 32 → privilege_count ≤ p → has p m ≡ false
unfolding has
has_small p m h l = ap (λ (x : ℕ). is_one (x % 2)) (div-eq_of_lt (lt_of_lt_of_le h (pow_mono l)))

-- extensionality: below 2^32 the privileges 0 to 31 decide
pub small_ext : (a b : ℕ) → a < 2 ^ 32 → b < 2 ^ 32 → ((p : ℕ) → p < privilege_count → has p a ≡ has p b) → a ≡ b
small_ext a b ha hb h = has_ext a b λ p. go p (dec_lt p 32)
  where
    go : (p : ℕ) → Dec (p < privilege_count) → has p a ≡ has p b
    go p (yes l) = h p l
    go p (no n) = let l : privilege_count ≤ p = omega arith in has_small p a ha l ∙ sym (has_small p b hb l)

pub meet_small : (a b : ℕ) → a < 2 ^ 32 → meet a b < 2 ^ 32
unfolding meet
meet_small a b h = lt_of_le_of_lt (and_le_l a b) h

pub union_small : (a b : ℕ) → a < 2 ^ 32 → b < 2 ^ 32 → union a b < 2 ^ 32
unfolding union
union_small a b h k = or_lt 32 a b h k

pub insert_small : (p m : ℕ) → p < privilege_count → m < 2 ^ 32 → insert p m < 2 ^ 32
unfolding insert
insert_small p m h k = or_lt 32 m (2 ^ p) k (pow-lt h)

-- what is taken out of a set makes it no larger
pub remove_small : (p m : ℕ) → m < 2 ^ 32 → remove p m < 2 ^ 32
unfolding remove
remove_small p m h = xor_lt 32 m (bit_and m (2 ^ p)) h (lt_of_le_of_lt (and_le_l m (2 ^ p)) h)

-- ---- inclusion
pub ⊆_refl : (a : ℕ) → a ⊆ a
⊆_refl a = record { all = λ p h. h }

pub ⊆_trans : {a b c : ℕ} → a ⊆ b → b ⊆ c → a ⊆ c
⊆_trans f g = record { all = λ p h. g.all p (f.all p h) }

pub ⊆_antisym : (a b : ℕ) → a ⊆ b → b ⊆ a → a ≡ b
⊆_antisym a b f g = has_ext a b λ p. bool_ext (has p a) (has p b) (f.all p) (g.all p)

pub ⊆_none : (a : ℕ) → 0 ⊆ a
⊆_none a = record { all = λ p h. absurd (false≢true (sym (has_none p) ∙ h)) }

pub ⊆_union_left : (a b : ℕ) → a ⊆ union a b
⊆_union_left a b = record { all = λ p h. has_union p a b ∙ or_left (has p b) h }

pub ⊆_union_right : (a b : ℕ) → b ⊆ union a b
⊆_union_right a b = record { all = λ p h. has_union p a b ∙ or_right (has p a) h }

pub union_⊆ : {a b c : ℕ} → a ⊆ c → b ⊆ c → union a b ⊆ c
union_⊆ {a} {b} f g = record { all = λ p h. ⊎_elim (f.all p) (g.all p) (or_cases (has p a) (has p b) (sym (has_union p a b) ∙ h)) }

pub union_mono : {a b c d : ℕ} → a ⊆ c → b ⊆ d → union a b ⊆ union c d
union_mono {c = c} {d = d} f g = union_⊆ (⊆_trans f (⊆_union_left c d)) (⊆_trans g (⊆_union_right c d))

pub ⊆_meet : {a b c : ℕ} → a ⊆ b → a ⊆ c → a ⊆ meet b c
⊆_meet {b = b} {c = c} f g = record { all = λ p h. has_meet p b c ∙ and_both (f.all p h) (g.all p h) }

pub has_inserted : (p m : ℕ) → has p (insert p m) ≡ true
has_inserted p m = has_insert p p m ∙ or_left (has p m) (eq-eqb p p refl)

pub ⊆_insert : (p m : ℕ) → m ⊆ insert p m
⊆_insert p m = record { all = λ q h. has_insert q p m ∙ or_right (eqb q p) h }

pub insert_mono : (p : ℕ) {a b : ℕ} → a ⊆ b → insert p a ⊆ insert p b
insert_mono p {a} {b} f = record {
  all = λ q h. has_insert q p b ∙ ⊎_elim (or_left (has q b)) (λ e. or_right (eqb q p) (f.all q e)) (or_cases (eqb q p) (has q a) (sym (has_insert q p a) ∙ h));
}

pub remove_mono : (p : ℕ) {a b : ℕ} → a ⊆ b → remove p a ⊆ remove p b
remove_mono p {a} {b} f = record {
  all = λ q h. let g = sym (has_remove q p a) ∙ h in
      has_remove q p b ∙ and_both (and_left (not (eqb q p)) (has q a) g) (f.all q (and_right (not (eqb q p)) (has q a) g));
}

pub remove_⊆ : (p m : ℕ) → remove p m ⊆ m
remove_⊆ p m = record { all = λ q h. and_right (not (eqb q p)) (has q m) (sym (has_remove q p m) ∙ h) }

-- what lies in a set but for p lies in it, if the set has p
pub remove_has : (p a b : ℕ) → remove p a ⊆ b → has p b ≡ true → a ⊆ b
remove_has p a b f g = record { all = λ q h. kept q (eqb q p) refl h }
  where
    kept : (q : ℕ) (z : Bool) → eqb q p ≡ z → has q a ≡ true → has q b ≡ true
    kept q true e h = ap (λ (x : ℕ). has x b) (eqb-true q p e) ∙ g
    kept q false e h = f.all q (has_remove q p a ∙ and_both (ap not e) h)

-- and in the set with p added
pub remove_insert : (p a b : ℕ) → remove p a ⊆ b → a ⊆ insert p b
remove_insert p a b f = remove_has p a (insert p b) (⊆_trans f (⊆_insert p b)) (has_inserted p b)

-- ---- subset decides inclusion
and_absorb : (a b : Bool) → (a ≡ true → b ≡ true) → (a && b) ≡ a
and_absorb true b h = h refl
and_absorb false b h = refl

pub subset_⊆ : (a b : ℕ) → subset a b ≡ true → a ⊆ b
unfolding subset meet
subset_⊆ a b e = record {
  all = λ p h. and_right (has p a) (has p b) (sym (has_meet p a b) ∙ ap (has p) (eqb-true (bit_and a b) a e) ∙ h);
}

pub ⊆_subset : {a b : ℕ} → a ⊆ b → subset a b ≡ true
unfolding subset meet
⊆_subset {a} {b} f = eq-eqb (bit_and a b) a (has_ext (bit_and a b) a λ p. has_meet p a b ∙ and_absorb (has p a) (has p b) (f.all p))
