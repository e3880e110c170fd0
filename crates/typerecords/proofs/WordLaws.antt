-- So many bytes as one number, lowest first (le_word): two such numbers are equal exactly if the bytes agree (same_word). That is said once, over the
-- width, and cited for 8 and for 2, into which the ten bytes of a record split (same_record).
use mathlib.Core.Bool.{Bool, true, false, ◌&&◌}
use mathlib.Core.List.{List}
use mathlib.Core.Path.{◌≡◌, refl, sym, ap, ◌∙◌}
use native.Mathlib.Decide.{ℕ_discrete}
use Prim.Native.Nat.{ℕ, zero, suc, ◌+◌, ◌*◌, ◌^◌, ◌<◌}
use native.Mathlib.Omega.{arith}
use lib.Dec.{eqb}
use borrow.Author.Tests.{eqb-true, eqb-false, eq-eqb, ne_eqb}
use Rattle.program.specs.Bytes.{byte, Bytes}
use Rattle.program.specs.Decoding.{same_bytes}
use Rattle.typerecords.specs.Internal.{le_word}

-- ---- the library's numbers of eight and of two bytes
word_step : (s : List ℕ) (i j n : ℕ) → i + 1 ≡ j → le_word s i (n + 1) ≡ byte s i + 256 * le_word s j n
unfolding le_word
word_step s i j n e =
    let k : n + 1 ≡ suc n = omega arith in
    ap (le_word s i) k ∙ ap (λ (x : ℕ). byte s i + 256 * le_word s x n) e

word_end : (s : List ℕ) (i : ℕ) → le_word s i 0 ≡ 0
unfolding le_word
word_end s i = refl

pub word_2 : (s : List ℕ) (i : ℕ) {x : ℕ} → x ≡ byte s i + byte s (i + 1) * 256 → x ≡ le_word s i 2
word_2 s i e = omega (arith, e, word_step s i (i + 1) 1 refl, word_step s (i + 1) (i + 2) 0 (omega arith), word_end s (i + 2))

pub word_8 : (s : List ℕ) (i : ℕ) {x : ℕ}
    → x ≡ byte s i + byte s (i + 1) * 256 + byte s (i + 2) * 256 ^ 2 + byte s (i + 3) * 256 ^ 3 + byte s (i + 4) * 256 ^ 4 + byte s (i + 5) * 256 ^ 5
    + byte s (i + 6) * 256 ^ 6 + byte s (i + 7) * 256 ^ 7
    → x ≡ le_word s i 8
word_8 s i e =
    omega (
      arith,
      e,
      word_step s i (i + 1) 7 refl,
      word_step s (i + 1) (i + 2) 6 (omega arith),
      word_step s (i + 2) (i + 3) 5 (omega arith),
      word_step s (i + 3) (i + 4) 4 (omega arith),
      word_step s (i + 4) (i + 5) 3 (omega arith),
      word_step s (i + 5) (i + 6) 2 (omega arith),
      word_step s (i + 6) (i + 7) 1 (omega arith),
      word_step s (i + 7) (i + 8) 0 (omega arith),
      word_end s (i + 8),
    )

-- ---- bytes in two parts
and_assoc : (a b c : Bool) → (a && (b && c)) ≡ ((a && b) && c)
and_assoc true b c = refl
and_assoc false b c = refl

and_true : (a : Bool) → (a && true) ≡ a
and_true true = refl
and_true false = refl

same_split : (s : List ℕ) (i j m n : ℕ) → same_bytes s i j (m + n) ≡ (same_bytes s (i + m) (j + m) n && same_bytes s i j m)
same_split s i j m zero = let e : m + 0 ≡ m = omega arith in ap (same_bytes s i j) e
same_split s i j m (suc n) =
    let e : m + suc n ≡ suc (m + n) = omega arith in
    let p : i + (m + n) ≡ i + m + n = omega arith in
    let q : j + (m + n) ≡ j + m + n = omega arith in
    ap (same_bytes s i j) e ∙ (λ k. eqb (byte s (p k)) (byte s (q k)) && same_split s i j m n k)
    ∙ and_assoc (eqb (byte s (i + m + n)) (byte s (j + m + n))) (same_bytes s (i + m) (j + m) n) (same_bytes s i j m)

-- ---- words and bytes
-- two numbers are equal exactly if their last digits to the base 256 are, and the rest
digits : (x y a b : ℕ) → x < 256 → y < 256 → (eqb a b && eqb x y) ≡ eqb (x + 256 * a) (y + 256 * b)
digits x y a b p q = decide (eqb a b) (eqb x y) refl refl
  where
    decide : (u v : Bool) → eqb a b ≡ u → eqb x y ≡ v → (eqb a b && eqb x y) ≡ eqb (x + 256 * a) (y + 256 * b)
    decide true true f g =
        (λ i. f i && g i) ∙ sym (eq-eqb (x + 256 * a) (y + 256 * b) (omega (arith, eqb-true a b f, eqb-true x y g)))
    decide true false f g =
        (λ i. f i && g i) ∙ sym (ne_eqb (x + 256 * a) (y + 256 * b) (λ e. eqb-false x y g (omega arith)))
    decide false v f g =
        ap (λ (u : Bool). u && eqb x y) f ∙ sym (ne_eqb (x + 256 * a) (y + 256 * b) (λ e. eqb-false a b f (omega arith)))

-- so many bytes agree exactly if the words are equal: one byte more in front is one digit more below
pub same_word : (s : List ℕ) → Bytes s → (i j n : ℕ) → same_bytes s i j n ≡ eqb (le_word s i n) (le_word s j n)
unfolding le_word
same_word s b i j zero = refl
same_word s b i j (suc n) =
    let e : suc n ≡ 1 + n = omega arith in
    let p : i + 0 ≡ i = omega arith in
    let q : j + 0 ≡ j = omega arith in
    ap (same_bytes s i j) e ∙ same_split s i j 1 n
    ∙ (λ k. same_word s b (i + 1) (j + 1) n k && (eqb (byte s (p k)) (byte s (q k)) && true))
    ∙ ap (λ (x : Bool). eqb (le_word s (i + 1) n) (le_word s (j + 1) n) && x) (and_true (eqb (byte s i) (byte s j)))
    ∙ digits (byte s i) (byte s j) (le_word s (i + 1) n) (le_word s (j + 1) n) (b.below i) (b.below j)

-- a record, by its two words
pub same_record : (s : List ℕ) → Bytes s → (i j : ℕ)
    → same_bytes s i j 10 ≡ (eqb (le_word s (i + 2) 8) (le_word s (j + 2) 8) && eqb (le_word s i 2) (le_word s j 2))
same_record s b i j = same_split s i j 2 8 ∙ (λ k. same_word s b (i + 2) (j + 2) 8 k && same_word s b i j 2 k)

-- ---- what a comparison by words finds of two records
module _ (s : List ℕ) (b : Bytes s) (i j : ℕ) where
  pub words_differ : (le_word s (i + 2) 8 ≡ le_word s (j + 2) 8 → le_word s i 2 ≡ le_word s j 2 → ⊥) → same_bytes s i j 10 ≡ false
  words_differ n = same_record s b i j ∙ elim (ℕ_discrete (le_word s (i + 2) 8) (le_word s (j + 2) 8)) [
    | yes e ↦ ap (λ (z : Bool). z && eqb (le_word s i 2) (le_word s j 2)) (eq-eqb _ _ e) ∙ ne_eqb (le_word s i 2) (le_word s j 2) (n e)
    | no d ↦ ap (λ (z : Bool). z && eqb (le_word s i 2) (le_word s j 2)) (ne_eqb _ _ d)
  ]

  pub words_same : le_word s (i + 2) 8 ≡ le_word s (j + 2) 8 → le_word s i 2 ≡ le_word s j 2 → same_bytes s i j 10 ≡ true
  words_same e f = same_record s b i j ∙ (λ k. eq-eqb _ _ e k && eq-eqb _ _ f k)
