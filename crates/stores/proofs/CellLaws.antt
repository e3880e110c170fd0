-- Cells: what is read in the store and past its end, and the walk from cell to cell. Assumes nothing.
use mathlib.Core.Bool.{Bool, true, false, cond}
use mathlib.Core.List.{List}
use mathlib.Core.Path.{◌≡◌, refl, sym, ap, ◌∙◌}
use Prim.Native.Nat.{ℕ, zero, suc, ◌+◌, ◌-◌, ◌*◌, ◌/◌, ◌<◌, ◌≤◌}
use native.Mathlib.Numerals.{sub-one}
use native.Mathlib.Omega.{arith}
use lib.ListN.{get_or, length}
use lib.Dec.{ltb}
use borrow.Author.Tests.{eq-eqb, ne_eqb, le-leb, lt-leb, le-ltb, lt-ltb, ltb-true, ltb-false}
use Rattle.program.specs.Bytes.{word16}
use Rattle.stores.specs.Words.{stop_word}
use Rattle.stores.specs.Cells.{behind_of, walk_of, cell_word, look_of, cell_set, made_with, store_with, BindsCell}

module _ (cells : List ℕ) (e : ℕ) where
  pub behind_none : e ≡ 0 → 0 ≡ behind_of cells e
  unfolding behind_of
  behind_none h = simp (eq-eqb e 0 h)

  pub behind_out : (e ≡ 0 → ⊥) → length cells < e * 8 → 0 ≡ behind_of cells e
  unfolding behind_of
  behind_out n h = simp (ne_eqb e 0 n, lt-leb (e * 8) (length cells) h)

  pub behind_in : {r : ℕ} → (e ≡ 0 → ⊥) → e * 8 ≤ length cells → r ≡ word16 cells (e * 8 - 3) → r ≡ behind_of cells e
  unfolding behind_of
  behind_in n h q = q ∙ sym (simp (ne_eqb e 0 n, le-leb (e * 8) (length cells) h))

  pub cell_outside : length cells < e * 8 → 0 ≡ cell_word cells e
  unfolding cell_word
  cell_outside h = simp (lt-leb (e * 8) (length cells) h)

  pub cell_inside : {n m : ℕ} → e * 8 ≤ length cells → n ≡ word16 cells (e * 8 - 7) → m ≡ word16 cells (e * 8 - 5)
      → get_or cells (e * 8 - 8) 0 + 65536 * n + 4294967296 * m ≡ cell_word cells e
  unfolding cell_word
  cell_inside h p q = (λ i. get_or cells (e * 8 - 8) 0 + 65536 * p i + 4294967296 * q i) ∙ sym (simp (le-leb (e * 8) (length cells) h))

walk_end : (cells : List ℕ) (e left : ℕ) → left ≤ 0 → walk_of cells e left ≡ e
unfolding walk_of
walk_end cells e zero h = refl
walk_end cells e (suc k) h = absurd (omega arith)

pub walk_ends : (cells : List ℕ) (e left w : ℕ) → walk_of cells e left ≡ w → left ≤ 0 → e ≡ w
walk_ends cells e left w p h = sym (walk_end cells e left h) ∙ p

pub walk_more : (cells : List ℕ) (e left p w : ℕ) → 0 < left → p ≡ behind_of cells e → walk_of cells e left ≡ w → walk_of cells p (left - 1) ≡ w
unfolding walk_of
walk_more cells e zero p w h q r = absurd (omega arith)
walk_more cells e (suc k) p w h q r = rw (q, sub-one) r

module _ (cells : List ℕ) (t env k e : ℕ) (p : e ≡ walk_of cells env k) where
  pub look_none : {w : ℕ} → e ≡ 0 → w ≡ stop_word 18 t → w ≡ look_of cells t env k
  unfolding look_of
  look_none r q = q ∙ sym (simp (eq-eqb (walk_of cells env k) 0 (sym p ∙ r)))

  pub look_some : {w : ℕ} → (e ≡ 0 → ⊥) → w ≡ cell_word cells e → w ≡ look_of cells t env k
  unfolding look_of
  look_some ne q = simp (ne_eqb (walk_of cells env k) 0 (λ z. ne (p ∙ z))) (rw p at q)

-- one more cell, or none
module _ (made w behind : ℕ) (l : List ℕ) where
  pub bind_full : length l / 8 ≤ made → BindsCell made w behind l 0 l
  unfolding made_with store_with
  bind_full h = record { made_is = simp (le-ltb made (length l / 8) h); store_is = simp (le-ltb made (length l / 8) h) }

  pub bind_room : {l' : List ℕ} → made < length l / 8 → l' ≡ cell_set l made w behind → BindsCell made w behind l (made + 1) l'
  unfolding made_with store_with
  bind_room h q = record { made_is = simp (lt-ltb made (length l / 8) h); store_is = q ∙ sym (simp (lt-ltb made (length l / 8) h)) }

-- what a new cell, or none, says of the room
module _ (made w behind : ℕ) (l : List ℕ) {r : ℕ} {l' : List ℕ} (b : BindsCell made w behind l r l') where
  by_room : (c : Bool) → ltb made (length l / 8) ≡ c → (r ≡ cond c (made + 1) 0) × (l' ≡ cond c (cell_set l made w behind) l)
  unfolding made_with store_with
  by_room c e =
      (b.made_is ∙ ap (λ (x : Bool). cond x (made + 1) 0) e, b.store_is ∙ ap (λ (x : Bool). cond x (cell_set l made w behind) l) e)

  pub bound_full : r ≡ 0 → (length l / 8 ≤ made) × (l' ≡ l)
  bound_full z = go (ltb made (length l / 8)) refl
    where
      go : (c : Bool) → ltb made (length l / 8) ≡ c → (length l / 8 ≤ made) × (l' ≡ l)
      go true e = absurd (omega (arith, z, (by_room true e).0))
      go false e = (ltb-false made (length l / 8) e, (by_room false e).1)

  pub bound_room : (r ≡ 0 → ⊥) → (made < length l / 8) × ((r ≡ made + 1) × (l' ≡ cell_set l made w behind))
  bound_room n = go (ltb made (length l / 8)) refl
    where
      go : (c : Bool) → ltb made (length l / 8) ≡ c → (made < length l / 8) × ((r ≡ made + 1) × (l' ≡ cell_set l made w behind))
      go true e = (ltb-true made (length l / 8) e, by_room true e)
      go false e = absurd (n (by_room false e).0)
