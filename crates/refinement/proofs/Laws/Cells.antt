-- The bytes of a cell: what is written is read back, and what lies before it stays.
use Rattle.std.specs.Prelude.{true, ◌≡◌, List, leb, eqb, get_or, length}
use Rattle.std.proofs.Math.Bool.{cond}
use Rattle.std.proofs.Common.{◌∙◌, ne_eqb, le-leb}
use Prim.Native.Nat.{ℕ, ◌+◌, ◌*◌, ◌%◌, ◌-◌, ◌<◌, ◌≤◌}
use native.Mathlib.Omega.{arith}
use Rattle.std.proofs.Math.ListN.{length-set}
use Rattle.std.proofs.Math.Seq.{get_or-set_same, get_or-set_other}
use Rattle.program.proofs.Laws.Bytes.{word_length, word_other, word_there}
use Rattle.program.specs.Bytes.{word16, with_word16}
use Rattle.stores.specs.Words.{sort_of, payload_of, env_of}
use Rattle.stores.specs.Cells.{behind_of, cell_word, cell_set}

-- the two bytes at j, of a list that is the same there
word16_same : (l k : List ℕ) (j : ℕ) → get_or k j 0 ≡ get_or l j 0 → get_or k (j + 1) 0 ≡ get_or l (j + 1) 0 → word16 k j ≡ word16 l j
word16_same l k j p q = λ i. p i * 256 + q i

set16_apart : (l : List ℕ) (i n j : ℕ) → j + 1 < i → word16 (with_word16 l i n) j ≡ word16 l j
set16_apart l i n j h =
    word16_same l (with_word16 l i n) j (word_other l i n j (λ e. omega arith) (λ e. omega arith))
    (word_other l i n (j + 1) (λ e. omega arith) (λ e. omega arith))

-- a cell that is whole in the store, by its first byte
module _ (l : List ℕ) (i : ℕ) (fits : i * 8 + 7 < length l) where
  whole : leb ((i + 1) * 8) (length l) ≡ true
  whole = le-leb ((i + 1) * 8) (length l) (omega arith)

  held_at : cell_word l (i + 1) ≡ get_or l (i * 8) 0 + 65536 * word16 l (i * 8 + 1) + 4294967296 * word16 l (i * 8 + 3)
  unfolding cell_word
  held_at =
      let at : ℕ = (i + 1) * 8 in
      let p : at - 8 ≡ i * 8 = omega arith in
      let q : at - 7 ≡ i * 8 + 1 = omega arith in
      let r : at - 5 ≡ i * 8 + 3 = omega arith in
      λ j. cond (whole j) (get_or l (p j) 0 + 65536 * word16 l (q j) + 4294967296 * word16 l (r j)) 0

  behind_at : behind_of l (i + 1) ≡ word16 l (i * 8 + 5)
  unfolding behind_of
  behind_at =
      let p : (i + 1) * 8 - 3 ≡ i * 8 + 5 = omega arith in
      λ j. cond (ne_eqb (i + 1) 0 (λ e. omega arith) j) 0 (cond (whole j) (word16 l (p j)) 0)

module _ (l : List ℕ) (i w behind : ℕ) where
  pub length_cell : length (cell_set l i w behind) ≡ length l
  unfolding cell_set
  length_cell = simp (word_length, length-set)

  cell_before : (j : ℕ) → j < 8 * i → get_or (cell_set l i w behind) j 0 ≡ get_or l j 0
  unfolding cell_set
  cell_before j h =
      word_other _ (i * 8 + 5) behind j (λ e. omega arith) (λ e. omega arith) ∙ word_other _ (i * 8 + 3) (env_of w) j (λ e. omega arith) (λ e. omega arith)
      ∙ word_other _ (i * 8 + 1) (payload_of w) j (λ e. omega arith) (λ e. omega arith) ∙ get_or-set_other l (i * 8) j (sort_of w % 256) 0 (λ e. omega arith)

  module _ (fits : i * 8 + 7 < length l) where
    cell_sort : get_or (cell_set l i w behind) (i * 8) 0 ≡ sort_of w % 256
    unfolding cell_set
    cell_sort =
        word_other _ (i * 8 + 5) behind (i * 8) (λ e. omega arith) (λ e. omega arith)
        ∙ word_other _ (i * 8 + 3) (env_of w) (i * 8) (λ e. omega arith) (λ e. omega arith)
        ∙ word_other _ (i * 8 + 1) (payload_of w) (i * 8) (λ e. omega arith) (λ e. omega arith) ∙ get_or-set_same l (i * 8) (sort_of w % 256) 0 (omega arith)

    cell_payload : word16 (cell_set l i w behind) (i * 8 + 1) ≡ payload_of w
    unfolding cell_set
    cell_payload =
        set16_apart _ (i * 8 + 5) behind (i * 8 + 1) (omega arith) ∙ set16_apart _ (i * 8 + 3) (env_of w) (i * 8 + 1) (omega arith)
        ∙ word_there _ (i * 8 + 1) (payload_of w) (simp length-set (omega arith))

    cell_env : word16 (cell_set l i w behind) (i * 8 + 3) ≡ env_of w
    unfolding cell_set
    cell_env = set16_apart _ (i * 8 + 5) behind (i * 8 + 3) (omega arith) ∙ word_there _ (i * 8 + 3) (env_of w) (simp (word_length, length-set) (omega arith))

    cell_link : word16 (cell_set l i w behind) (i * 8 + 5) ≡ behind
    unfolding cell_set
    cell_link = word_there _ (i * 8 + 5) behind (simp (word_length, length-set) (omega arith))

    -- the cell behind the new one
    pub cell_behind : behind_of (cell_set l i w behind) (i + 1) ≡ behind
    cell_behind = behind_at (cell_set l i w behind) i (omega (arith, length_cell)) ∙ cell_link

    -- what a cell was given is what it holds, of a word of three parts of 16 bits each, and so below 2^48, whose sort has one byte
    pub cell_holds : sort_of w < 256 → w < 281474976710656 → cell_word (cell_set l i w behind) (i + 1) ≡ w
    cell_holds p q =
        held_at (cell_set l i w behind) i (omega (arith, length_cell))
        ∙ (λ j. cell_sort j + 65536 * cell_payload j + 4294967296 * cell_env j) ∙ omega arith

-- ---- two stores of one length that agree on the first cells
pub record Agree (m : ℕ) (l k : List ℕ) : Type 0 where
  pub long : length k ≡ length l
  pub same : (j : ℕ) → j < 8 * m → get_or k j 0 ≡ get_or l j 0

module _ {m : ℕ} {l k : List ℕ} (a : Agree m l k) where
  -- the two bytes at j
  same16 : (j : ℕ) → j + 1 < 8 * m → word16 k j ≡ word16 l j
  same16 j h = word16_same l k j (a.same j (omega arith)) (a.same (j + 1) h)

  pub agree_held : (e : ℕ) → 1 ≤ e → e ≤ m → cell_word k e ≡ cell_word l e
  unfolding cell_word
  agree_held e p q =
      λ z. cond (leb (e * 8) (a.long z))
      (a.same (e * 8 - 8) (omega arith) z + 65536 * same16 (e * 8 - 7) (omega arith) z + 4294967296 * same16 (e * 8 - 5) (omega arith) z) 0

  pub agree_behind : (e : ℕ) → 1 ≤ e → e ≤ m → behind_of k e ≡ behind_of l e
  unfolding behind_of
  agree_behind e p q = λ z. cond (eqb e 0) 0 (cond (leb (e * 8) (a.long z)) (same16 (e * 8 - 3) (omega arith) z) 0)

pub agree_cell : (l : List ℕ) (i w behind : ℕ) → Agree i l (cell_set l i w behind)
agree_cell l i w behind = record { long = length_cell l i w behind; same = cell_before l i w behind }
