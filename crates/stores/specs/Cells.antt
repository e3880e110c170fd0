-- Cells as bytes: eight a cell, counted from 1, of a word's sort, payload and environment and the number of the cell behind it; 0 is none. A cell that
-- is not whole in the store reads as zeros.
use Rattle.std.specs.Prelude.{cond, List, ◌≡◌, ℕ, zero, suc, ◌+◌, ◌-◌, ◌*◌, ◌/◌, ◌%◌, leb, ltb, eqb, length, get_or, set, replicate}
use Rattle.program.specs.Bytes.{word16, with_word16}
use Rattle.stores.specs.Words.{sort_of, payload_of, env_of, stop_word}

unfoldable pub behind_of : List ℕ → (e : ℕ) → ℕ
behind_of cells e = cond (eqb e 0) 0 (cond (leb (e * 8) (length cells)) (word16 cells (e * 8 - 3)) 0)

unfoldable pub walk_of : List ℕ → (e k : ℕ) → ℕ
walk_of cells e zero = e
walk_of cells e (suc k) = walk_of cells (behind_of cells e) k

-- the word in cell e
unfoldable pub cell_word : List ℕ → (e : ℕ) → ℕ
cell_word cells e =
    cond (leb (e * 8) (length cells)) (get_or cells (e * 8 - 8) 0 + 65536 * word16 cells (e * 8 - 7) + 4294967296 * word16 cells (e * 8 - 5)) 0

-- the variable t that is k bindings away
unfoldable pub look_of : List ℕ → (t env k : ℕ) → ℕ
look_of cells t env k = cond (eqb (walk_of cells env k) 0) (stop_word 18 t) (cell_word cells (walk_of cells env k))

-- cell number i, from 0, with a word and the cell behind it
unfoldable pub cell_set : List ℕ → (i w behind : ℕ) → List ℕ
cell_set l i w behind = with_word16 (with_word16 (with_word16 (set l (i * 8) (sort_of w % 256)) (i * 8 + 1) (payload_of w)) (i * 8 + 3) (env_of w))
    (i * 8 + 5) behind

-- the cell after so many, by its number of 16 bits
abbrev pub next_cell : (made : ℕ) → ℕ
next_cell made = (made + 1) % 65536

-- one more cell, if there is one: how many are made then, or 0, and the store
unfoldable pub made_with : (made : ℕ) → List ℕ → ℕ
made_with made l = cond (ltb made (length l / 8)) (made + 1) 0

unfoldable pub store_with : (made w behind : ℕ) → List ℕ → List ℕ
store_with made w behind l = cond (ltb made (length l / 8)) (cell_set l made w behind) l

pub record BindsCell (made w behind : ℕ) (l : List ℕ) (r : ℕ) (l' : List ℕ) : Type 0 where
  pub made_is : r ≡ made_with made l
  pub store_is : l' ≡ store_with made w behind l

abbrev pub zeros_like : List ℕ → List ℕ
zeros_like l = replicate (length l) 0
