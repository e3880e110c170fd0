-- Which pair a number term has, and that pairs in order have no lowest above its highest.
use Rattle.std.specs.Prelude.{Bool, true, cond, List, ◌≡◌, ℕ, zero, suc, ◌<◌, ◌≤◌, leb}
use Rattle.std.proofs.Common.{sym, ap, ◌∙◌, subst, arith, leb-true}
use Rattle.std.proofs.Math.Decide.{ℕ_discrete}
use Rattle.privileges.specs.Booleans.{and_left, and_right}
use Rattle.program.specs.Layout.{terms}
use Rattle.intervals.specs.Pairs.{is_number, numbers_below, pair_at, pair_of, ordered, pairs_ok}

-- a number term below n is counted
pub counted_below : (s : List ℕ) (t n : ℕ) → t < n → is_number s t ≡ true → numbers_below s t < numbers_below s n
counted_below s t zero h e = absurd (omega arith)
counted_below s t (suc n) h e = elim (ℕ_discrete t n) [
  | yes p ↦ (let q : numbers_below s t ≡ numbers_below s n = ap (numbers_below s) p in
      let one : ◌≡◌ {A = ℕ} (cond (is_number s n) 1 0) 1 = ap (λ (b : Bool). cond b 1 0) (ap (is_number s) (sym p) ∙ e) in
      omega (arith, q, one))
  | no p ↦ omega (arith, counted_below s t n (omega arith) e)
]

pub ordered_at : (ps : List ℕ) (i n : ℕ) → i < n → ordered ps n ≡ true → (pair_at ps i).low ≤ (pair_at ps i).high
ordered_at ps i zero h e = absurd (omega arith)
ordered_at ps i (suc n) h e =
    let here : leb (pair_at ps n).low (pair_at ps n).high ≡ true = and_left _ (ordered ps n) e in
    elim (ℕ_discrete i n) [
      | yes p ↦ subst (λ (k : ℕ). (pair_at ps k).low ≤ (pair_at ps k).high) (sym p) (leb-true (pair_at ps n).low (pair_at ps n).high here)
      | no p ↦ ordered_at ps i n (omega arith) (and_right (leb (pair_at ps n).low (pair_at ps n).high) (ordered ps n) e)
    ]

pub pair_ordered : (s ps : List ℕ) → pairs_ok s ps ≡ true → (t : ℕ) → t < terms s → is_number s t ≡ true → (pair_of s ps t).low ≤ (pair_of s ps t).high
pair_ordered s ps ok t l e =
    let in_order_holds : ordered ps (numbers_below s (terms s)) ≡ true = search (ok, and_right) in
    ordered_at ps (numbers_below s t) (numbers_below s (terms s)) (counted_below s t (terms s) l e) in_order_holds
