-- A number's two bytes in a list: what is written is read back, and the other bytes are as they were.
use Rattle.std.specs.Prelude.{List, ◌≡◌, ℕ, ◌+◌, ◌/◌, ◌%◌, ◌<◌, length, set}
use Rattle.std.proofs.Common.{◌∙◌, arith}
use Rattle.std.proofs.Math.ListN.{length-set}
use Rattle.std.proofs.Math.Seq.{get_or-set_same, get_or-set_other}
use Rattle.program.specs.Bytes.{byte, word16, with_word16}

module _ (l : List ℕ) (i n : ℕ) where
  pub word_high : i < length l → byte (with_word16 l i n) i ≡ n / 256
  unfolding with_word16
  word_high h = get_or-set_other (set l i (n / 256)) (i + 1) i (n % 256) 0 (λ e. omega (arith, e)) ∙ get_or-set_same l i (n / 256) 0 h

  pub word_low : i + 1 < length l → byte (with_word16 l i n) (i + 1) ≡ n % 256
  unfolding with_word16
  word_low h = get_or-set_same (set l i (n / 256)) (i + 1) (n % 256) 0 (omega (arith, length-set l i (n / 256)))

  -- a number is read as it is written
  pub word_there : i + 1 < length l → word16 (with_word16 l i n) i ≡ n
  word_there h = omega (arith, word_high (omega arith), word_low h)

  pub word_length : length (with_word16 l i n) ≡ length l
  unfolding with_word16
  word_length = length-set (set l i (n / 256)) (i + 1) (n % 256) ∙ length-set l i (n / 256)

  pub word_other : (j : ℕ) → (j ≡ i → ⊥) → (j ≡ i + 1 → ⊥) → byte (with_word16 l i n) j ≡ byte l j
  unfolding with_word16
  word_other j a b = get_or-set_other (set l i (n / 256)) (i + 1) j (n % 256) 0 b ∙ get_or-set_other l i j (n / 256) 0 a
