-- Tables that are filled one entry at a time, and the count of those that are kept. Assumes nothing.
use mathlib.Core.Bool.{Bool, true, false}
use mathlib.Core.List.{List}
use mathlib.Core.Path.{◌≡◌, sym, ap, ◌∙◌}
use Prim.Native.Nat.{ℕ, suc, ◌+◌, ◌<◌, ◌≤◌}
use native.Mathlib.Decide.{ℕ_discrete}
use native.Mathlib.Omega.{arith}
use lib.ListN.{length, get_or, set, length-set}
use lib.Seq.{get_or-set_same, get_or-set_other}
use Rattle.erasure.specs.Kept.{kept_below}
use Rattle.erasure.proofs.Laws.Kept.{kept_none, kept_yes, kept_no}
use Rattle.renumbering.specs.Internal.{Tabulated}

module _ (f : ℕ → ℕ) (l : List ℕ) where
  pub table_none : Tabulated f l 0
  table_none = record { each = λ x h. absurd (omega arith) }

  pub table_more : (n v : ℕ) → n < length l → v ≡ f n → Tabulated f l n → Tabulated f (set l n v) (n + 1)
  table_more n v h e T = record { each = go }
    where
      go : (x : ℕ) → x < n + 1 → get_or (set l n v) x 0 ≡ f x
      go x k = elim (ℕ_discrete x n) [
        | yes q ↦ ap (λ (y : ℕ). get_or (set l n v) y 0) q ∙ get_or-set_same l n v 0 h ∙ e ∙ ap f (sym q)
        | no q ↦ get_or-set_other l n x v 0 q ∙ T.each x (omega arith)
      ]

  pub table_whole : {n m : ℕ} → n ≡ m → Tabulated f l n → Tabulated f l m
  table_whole e T = record { each = λ x h. T.each x (omega arith) }

-- ---- how many are kept
module _ (keep : ℕ → Bool) (t : ℕ) {count : ℕ} (e : count ≡ kept_below keep t) where
  next : t + 1 ≡ suc t
  next = omega arith

  pub count_yes : keep t ≡ true → count + 1 ≡ kept_below keep (t + 1)
  count_yes k = ap (λ (x : ℕ). x + 1) e ∙ sym (kept_yes keep t k) ∙ ap (kept_below keep) (sym next)

  pub count_no : keep t ≡ false → count ≡ kept_below keep (t + 1)
  count_no k = e ∙ sym (kept_no keep t k) ∙ ap (kept_below keep) (sym next)

pub count_none : (keep : ℕ → Bool) → 0 ≡ kept_below keep 0
count_none keep = sym (kept_none keep)

-- ---- a loop over a table
-- it has room for so many entries, and has the new numbers of the first t; count of these are kept
pub record NumberedBelow (keep : ℕ → Bool) (new : ℕ → ℕ) (places : ℕ) (l : List ℕ) (count t : ℕ) : Type 0 where
  pub room : length l ≡ places
  pub count_is : count ≡ kept_below keep t
  pub table : Tabulated new l t

module _ {keep : ℕ → Bool} {new : ℕ → ℕ} {places count t : ℕ} {l : List ℕ} (N : NumberedBelow keep new places l count t) (inside : t < places) where
  -- one that is kept has the count as its number
  pub numbered_kept : {l' : List ℕ} {count' : ℕ} → keep t ≡ true → count ≡ new t → l' ≡ set l t count → count' ≡ count + 1
      → NumberedBelow keep new places l' count' (t + 1)
  numbered_kept k e same more = rw (same, more) record {
    room = length-set l t count ∙ N.room;
    count_is = count_yes keep t N.count_is k;
    table = table_more new l t count (omega (arith, N.room)) e N.table;
  }

  -- any other has that of another
  pub numbered_gone : {l' : List ℕ} {count' v : ℕ} → keep t ≡ false → v ≡ new t → l' ≡ set l t v → count' ≡ count
      → NumberedBelow keep new places l' count' (t + 1)
  numbered_gone {l'} {count'} {v} k e same none = rw (same, none) record {
    room = length-set l t v ∙ N.room;
    count_is = count_no keep t N.count_is k;
    table = table_more new l t v (omega (arith, N.room)) e N.table;
  }

pub within : {t n m : ℕ} → t < n → n ≡ m → t < m
within h e = omega arith

pub through : {t n m : ℕ} → t ≤ n → n ≤ t → n ≡ m → t ≡ m
through h k e = omega arith
