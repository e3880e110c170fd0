-- What stands where in a sheet with other numbers: the two bytes of each number term's number are those of the number chosen, and all others are as they were.
use Rattle.std.specs.Prelude.{Bool, ◌≡◌, set}
use Rattle.std.proofs.Math.Bool.{true, false, cond}
use Rattle.std.proofs.Common.{true≢false, sym, ap, ◌∙◌, arith, get_or-set_same, get_or-set_other}
use mathlib.Core.List.{List}
use Rattle.std.proofs.Math.Path.{refl}
use Prim.Native.Nat.{ℕ, zero, suc, ◌+◌, ◌*◌, ◌/◌, ◌%◌, ◌<◌, ◌≤◌}
use Rattle.std.proofs.Math.Decide.{dec_lt, ℕ_discrete}
use Rattle.std.proofs.Math.ListN.{length}
use Rattle.std.proofs.Math.Seq.{set_out}
use Rattle.program.specs.Bytes.{byte, word16, with_word16, Bytes}
use Rattle.program.proofs.Laws.Bytes.{word_length, word_other, word_there}
use Rattle.program.specs.Layout.{term_field, terms, term_at, first, second, third}
use Rattle.intervals.specs.Pairs.{is_number}
use Rattle.intervals.specs.Choosing.{with_numbers_below, with_numbers}

-- bytes stay bytes
bytes_set : (l : List ℕ) (i x : ℕ) → Bytes l → x < 256 → Bytes (set l i x)
bytes_set l i x b h = record { below = λ j. elim (ℕ_discrete j i) [ yes e ↦ there j e | no n ↦ omega (arith, get_or-set_other l i j x 0 n, b.below j) ] }
  where
    there : (j : ℕ) → j ≡ i → byte (set l i x) j < 256
    there j e = elim (dec_lt i (length l)) [
      | yes g ↦ omega (arith, ap (byte (set l i x)) e, get_or-set_same l i x 0 g)
      | no g ↦ omega (arith, ap (λ (k : List ℕ). byte k j) (set_out l i x (omega arith)), b.below j)
    ]

word_bytes : (s : List ℕ) (i n : ℕ) → Bytes s → n < 65536 → Bytes (with_word16 s i n)
unfolding with_word16
word_bytes s i n b h = bytes_set (set s i (n / 256)) (i + 1) (n % 256) (bytes_set s i (n / 256) b (omega arith)) (omega arith)

-- places in the records of terms; b is where the first record begins
record_apart : (b t u j k : ℕ) → j < 8 → k < 8 → (j ≡ k → ⊥) → b + 8 * t + j ≡ b + 8 * u + k → ⊥
record_apart b t u j k hj hk ne e = omega (arith, ne)

module _ (ρ : ℕ → ℕ) (s : List ℕ) where
  abbrev below : (count : ℕ) → List ℕ
  below n = with_numbers_below ρ s n

  -- the place i is no number's among the first so many terms
  abbrev pub Apart : (count i : ℕ) → Type 0
  Apart n i = (t : ℕ) → t < n → is_number s t ≡ true → (i ≡ term_at s t + 2 → ⊥) × (i ≡ term_at s t + 2 + 1 → ⊥)

  length_below : (n : ℕ) → length (below n) ≡ length s
  unfolding with_numbers_below
  length_below zero = refl
  length_below (suc n) = go (is_number s n) (length_below n)
    where
      go : (b : Bool) → length (below n) ≡ length s → length (cond b (with_word16 (below n) (term_at s n + 2) (ρ n)) (below n)) ≡ length s
      go true e = word_length (below n) (term_at s n + 2) (ρ n) ∙ e
      go false e = e

  apart_below : (n i : ℕ) → Apart n i → byte (below n) i ≡ byte s i
  unfolding with_numbers_below
  apart_below zero i a = refl
  apart_below (suc n) i a = go (is_number s n) refl (apart_below n i (λ t h. a t (omega arith)))
    where
      go : (b : Bool) → is_number s n ≡ b → byte (below n) i ≡ byte s i
          → byte (cond b (with_word16 (below n) (term_at s n + 2) (ρ n)) (below n)) i ≡ byte s i
      go true e f = let x = a n (omega arith) e in word_other (below n) (term_at s n + 2) (ρ n) i x.0 x.1 ∙ f
      go false e f = f

  number_below : (n t : ℕ) → t < n → is_number s t ≡ true → term_at s t + 2 + 1 < length s → word16 (below n) (term_at s t + 2) ≡ ρ t
  unfolding with_numbers_below
  number_below zero t h e l = absurd (omega arith)
  number_below (suc n) t h e l = elim (dec_lt t n) [ yes g ↦ earlier (is_number s n) g (number_below n t g e l) | no g ↦ latest (omega arith) ]
    where
      step : (b : Bool) → List ℕ
      step b = cond b (with_word16 (below n) (term_at s n + 2) (ρ n)) (below n)

      kept : (i : ℕ) → (i ≡ term_at s n + 2 → ⊥) → (i ≡ term_at s n + 2 + 1 → ⊥) → byte (step true) i ≡ byte (below n) i
      kept i = word_other (below n) (term_at s n + 2) (ρ n) i

      earlier : (b : Bool) → t < n → word16 (below n) (term_at s t + 2) ≡ ρ t → word16 (step b) (term_at s t + 2) ≡ ρ t
      earlier true g f =
          (λ i. kept (term_at s t + 2) (λ q. omega (arith, q)) (λ q. omega (arith, q)) i * 256
          + kept (term_at s t + 2 + 1) (λ q. omega (arith, q)) (λ q. omega (arith, q)) i)
          ∙ f
      earlier false g f = f

      latest : n ≡ t → word16 (step (is_number s n)) (term_at s t + 2) ≡ ρ t
      latest q =
          (λ i. word16 (cond (is_number s (q i)) (with_word16 (below n) (term_at s (q i) + 2) (ρ (q i))) (below n)) (term_at s t + 2))
          ∙ (λ i. word16 (cond (e i) (with_word16 (below n) (term_at s t + 2) (ρ t)) (below n)) (term_at s t + 2))
          ∙ word_there (below n) (term_at s t + 2) (ρ t) (omega (arith, length_below n))

  bytes_below : Bytes s → ((t : ℕ) → is_number s t ≡ true → t < terms s → ρ t < 65536) → (n : ℕ) → n ≤ terms s → Bytes (below n)
  unfolding with_numbers_below
  bytes_below b h zero l = b
  bytes_below b h (suc n) l = go (is_number s n) refl (bytes_below b h n (omega arith))
    where
      go : (z : Bool) → is_number s n ≡ z → Bytes (below n) → Bytes (cond z (with_word16 (below n) (term_at s n + 2) (ρ n)) (below n))
      go true e b' = word_bytes (below n) (term_at s n + 2) (ρ n) b' (h n e (omega arith))
      go false e b' = b'

-- ---- what two sheets share that differ in the numbers of number terms alone
pub record SameButNumbers (s s' : List ℕ) : Type 0 where
  pub lengths : length s' ≡ length s
  pub front : (i : ℕ) → i < term_field s + 3 → byte s' i ≡ byte s i
  pub kinds : (t : ℕ) → byte s' (term_at s t) ≡ byte s (term_at s t)
  pub smalls : (t : ℕ) → byte s' (term_at s t + 1) ≡ byte s (term_at s t + 1)
  pub firsts : (t : ℕ) → is_number s t ≡ false → word16 s' (term_at s t + 2) ≡ first s t
  pub seconds : (t : ℕ) → word16 s' (term_at s t + 4) ≡ second s t
  pub thirds : (t : ℕ) → word16 s' (term_at s t + 6) ≡ third s t
  pub behind : (i : ℕ) → term_at s (terms s) ≤ i → byte s' i ≡ byte s i

module _ (ρ : ℕ → ℕ) (s : List ℕ) where
  pub apart_kept : (i : ℕ) → Apart ρ s (terms s) i → byte (with_numbers ρ s) i ≡ byte s i
  unfolding with_numbers
  apart_kept i a = apart_below ρ s (terms s) i a

  -- a part of a record that is no number
  in_record : (t u j : ℕ) → j < 8 → (j ≡ 2 → ⊥) → (j ≡ 3 → ⊥) → (term_at s t + j ≡ term_at s u + 2 → ⊥) × (term_at s t + j ≡ term_at s u + 2 + 1 → ⊥)
  in_record t u j h a b = (
    λ e. record_apart (term_field s + 3) t u j 2 h (omega arith) a e,
    λ e. record_apart (term_field s + 3) t u j 3 h (omega arith) b (omega (arith, e)),
  )

  part_kept : (t j : ℕ) → j < 8 → (j ≡ 2 → ⊥) → (j ≡ 3 → ⊥) → byte (with_numbers ρ s) (term_at s t + j) ≡ byte s (term_at s t + j)
  part_kept t j h a b = apart_kept (term_at s t + j) (λ u l e. in_record t u j h a b)

  -- the number of a term that is none stays too
  other_kept : (t j : ℕ) → j < 8 → is_number s t ≡ false → byte (with_numbers ρ s) (term_at s t + j) ≡ byte s (term_at s t + j)
  other_kept t j h n = apart_kept (term_at s t + j) apart
    where
      distinct : (u : ℕ) → is_number s u ≡ true → t ≡ u → ⊥
      distinct u e q = true≢false (sym e ∙ ap (is_number s) (sym q) ∙ n)

      apart : (u : ℕ) → u < terms s → is_number s u ≡ true → (term_at s t + j ≡ term_at s u + 2 → ⊥) × (term_at s t + j ≡ term_at s u + 2 + 1 → ⊥)
      apart u l e = let d = distinct u e in (λ q. omega (arith, d, q), λ q. omega (arith, d, q))

  pub same_length : length (with_numbers ρ s) ≡ length s
  unfolding with_numbers
  same_length = length_below ρ s (terms s)

  pub front_kept : (i : ℕ) → i < term_field s + 3 → byte (with_numbers ρ s) i ≡ byte s i
  front_kept i h = apart_kept i (λ u l e. (λ q. omega (arith, q), λ q. omega (arith, q)))

  behind_kept : (i : ℕ) → term_at s (terms s) ≤ i → byte (with_numbers ρ s) i ≡ byte s i
  behind_kept i h = apart_kept i (λ u l e. (λ q. omega (arith, q), λ q. omega (arith, q)))

  kind_kept : (t : ℕ) → byte (with_numbers ρ s) (term_at s t) ≡ byte s (term_at s t)
  kind_kept t =
      let e : term_at s t ≡ term_at s t + 0 = omega arith in
      ap (byte (with_numbers ρ s)) e ∙ part_kept t 0 (omega arith) (λ q. omega (arith, q)) (λ q. omega (arith, q)) ∙ ap (byte s) (sym e)

  -- a part of two bytes, by its first byte's place in the record
  word_kept : (t j : ℕ) → ((k : ℕ) → j ≤ k → k ≤ j + 1 → byte (with_numbers ρ s) (term_at s t + k) ≡ byte s (term_at s t + k))
      → word16 (with_numbers ρ s) (term_at s t + j) ≡ word16 s (term_at s t + j)
  word_kept t j h =
      let e : term_at s t + j + 1 ≡ term_at s t + (j + 1) = omega arith in
      let low : byte (with_numbers ρ s) (term_at s t + j + 1) ≡ byte s (term_at s t + j + 1) =
      ap (byte (with_numbers ρ s)) e ∙ h (j + 1) (omega arith) (omega arith) ∙ ap (byte s) (sym e) in
      λ i. h j (omega arith) (omega arith) i * 256 + low i

  pub alike : SameButNumbers s (with_numbers ρ s)
  alike = record {
    lengths = same_length;
    front = front_kept;
    kinds = kind_kept;
    smalls = λ t. part_kept t 1 (omega arith) (λ q. omega (arith, q)) (λ q. omega (arith, q));
    firsts = λ t n. word_kept t 2 (λ k l m. other_kept t k (omega arith) n);
    seconds = λ t. word_kept t 4 (λ k l m. part_kept t k (omega arith) (λ q. omega (arith, q)) (λ q. omega (arith, q)));
    thirds = λ t. word_kept t 6 (λ k l m. part_kept t k (omega arith) (λ q. omega (arith, q)) (λ q. omega (arith, q)));
    behind = behind_kept;
  }

  -- the number of a number term is the one chosen
  pub number_is : (t : ℕ) → t < terms s → is_number s t ≡ true → term_at s t + 2 + 1 < length s → word16 (with_numbers ρ s) (term_at s t + 2) ≡ ρ t
  unfolding with_numbers
  number_is t h e l = number_below ρ s (terms s) t h e l

  pub bytes_kept : Bytes s → ((t : ℕ) → is_number s t ≡ true → t < terms s → ρ t < 65536) → Bytes (with_numbers ρ s)
  unfolding with_numbers
  bytes_kept b h = bytes_below ρ s b h (terms s) (omega arith)
