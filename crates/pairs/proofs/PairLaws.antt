-- The number terms of a sheet counted, the pairs tested one by one, and laid into the words of the terms. Assumes nothing.
use mathlib.Core.Bool.{Bool, true, false, cond, ◌&&◌, true≢false}
use mathlib.Core.List.{List}
use mathlib.Core.Path.{◌≡◌, refl, sym, ap, ◌∙◌, subst}
use Prim.Native.Nat.{ℕ, zero, suc, ◌+◌, ◌*◌, ◌<◌, ◌≤◌}
use native.Mathlib.Decide.{ℕ_discrete}
use native.Mathlib.Omega.{arith}
use lib.Dec.{eqb}
use lib.ListN.{length, get_or, set, length-set}
use lib.Seq.{get_or-set_same, get_or-set_other}
use borrow.Author.Tests.{eq-eqb, ne_eqb}
use Rattle.program.specs.Layout.{version, terms}
use Rattle.program.specs.Records.{term_record}
use Rattle.program.proofs.Laws.Records.{term_is}
use Rattle.program.specs.declared.records.Counts.{Counts}
use Rattle.program.specs.declared.records.TermRecord.{TermRecord}
use Rattle.intervals.specs.Intervals.{Interval}
use Rattle.intervals.specs.Pairs.{is_number, numbers_below, pair_of, ordered, pairs_ok}
use Rattle.intervals.proofs.Laws.Pairs.{ordered_at}
use Rattle.stores.specs.Words.{interval_word}
use Rattle.pairs.specs.Internal.{TermOf, IntervalEncoded, PairsLaid}

-- ---- a term's kind, by its record
pub number_by : {s : List ℕ} {c : Counts} {t : ℕ} → TermOf s c t → {x : TermRecord} → x ≡ term_record s c t → eqb x.kind 1 ≡ is_number s t
number_by {s} {c} {t} h e = ap (λ (x : TermRecord). eqb x.kind 1) (e ∙ term_is s h.well_formed c h.counts t h.inside)

-- ---- counting
-- of the first t of so many terms n are number terms
pub record CountedBelow (s : List ℕ) (count t n : ℕ) : Type 0 where
  pub below : t ≤ count
  pub count_is : n ≡ numbers_below s t

counted_next : (s : List ℕ) (t : ℕ) {n : ℕ} {b : Bool} → n ≡ numbers_below s t → b ≡ is_number s t → cond b 1 0 + n ≡ numbers_below s (t + 1)
counted_next s t e f = (λ i. cond (f i) 1 0 + e i) ∙ ap (numbers_below s) {x = suc t} {y = t + 1} (omega arith)

pub counted_yes : (s : List ℕ) (t : ℕ) {n m : ℕ} → n ≡ numbers_below s t → true ≡ is_number s t → m ≡ n + 1 → m ≡ numbers_below s (t + 1)
counted_yes s t e f h = h ∙ omega arith ∙ counted_next s t e f

pub counted_no : (s : List ℕ) (t : ℕ) {n m : ℕ} → n ≡ numbers_below s t → false ≡ is_number s t → m ≡ n → m ≡ numbers_below s (t + 1)
counted_no s t e f h = h ∙ omega arith ∙ counted_next s t e f

one_most : (b : Bool) → cond b 1 0 ≤ 1
one_most true = omega arith
one_most false = omega arith

pub counted_most : (s : List ℕ) (t : ℕ) → numbers_below s t ≤ t
counted_most s zero = omega arith
counted_most s (suc t) = omega (arith, one_most (is_number s t), counted_most s t)

-- ---- the pairs in order
-- the first i of n pairs are in order
pub record OrderedBelow (ps : List ℕ) (n i : ℕ) : Type 0 where
  pub below : i ≤ n
  pub in_order_holds : ordered ps i ≡ true

pub ordered_not : (ps : List ℕ) (i n : ℕ) → i < n → get_or ps (2 * i + 1) 0 < get_or ps (2 * i) 0 → ordered ps n ≡ false
ordered_not ps i n h l = go (ordered ps n) refl
  where
    go : (b : Bool) → ordered ps n ≡ b → b ≡ false
    go true e = absurd (omega (arith, l, ordered_at ps i n h e))
    go false e = refl

-- ---- all three tests
module _ (s ps : List ℕ) where
  abbrev count : ℕ
  count = numbers_below s (terms s)

  abbrev tested : (version-right as_many in_order_holds : Bool) → Bool
  tested a b c = a && b && c

  pub other_version : (version s ≡ 1 → ⊥) → false ≡ pairs_ok s ps
  other_version n = ap (λ (a : Bool). tested a (eqb (length ps) (2 * count)) (ordered ps count)) (sym (ne_eqb (version s) 1 n))

  module _ (e : version s ≡ 1) {n : ℕ} (q : n ≡ count) where
    pub other_count : (length ps ≡ 2 * n → ⊥) → false ≡ pairs_ok s ps
    other_count h =
        let many : (length ps ≡ 2 * count → ⊥) = λ p. h (p ∙ ap (λ (k : ℕ). 2 * k) (sym q)) in
        λ i. tested (sym (eq-eqb (version s) 1 e) i) (sym (ne_eqb (length ps) (2 * count) many) i) (ordered ps count)

    pub all_tested : length ps ≡ 2 * n → {b : Bool} → b ≡ ordered ps n → b ≡ pairs_ok s ps
    all_tested h {b} o =
        let many : length ps ≡ 2 * count = h ∙ ap (λ (k : ℕ). 2 * k) q in
        (o ∙ ap (ordered ps) q)
        ∙ (λ i. tested (sym (eq-eqb (version s) 1 e) i) (sym (eq-eqb (length ps) (2 * count) many) i) (ordered ps count))

-- ---- laying
interval_encoded : {i : Interval} {l h : ℕ} → l < 65536 → h < 65536 → l ≡ i.low → h ≡ i.high → IntervalEncoded i (interval_word l h)
interval_encoded p q e f = record { kind_is = omega arith; lowest_is = omega arith ∙ e; highest_is = omega arith ∙ f }

-- of the first t of so many terms the number terms, n in all, have their pairs
pub record LaidBelow (s ps old new : List ℕ) (count n t : ℕ) : Type 0 where
  pub below : t ≤ count
  pub count_is : n ≡ numbers_below s t
  pub laid : PairsLaid s ps t old new

module _ {s ps old new : List ℕ} {t : ℕ} (h : PairsLaid s ps t old new) where
  pub laid_other : {new' : List ℕ} → false ≡ is_number s t → new' ≡ new → PairsLaid s ps (t + 1) old new'
  laid_other e same = subst (PairsLaid s ps (t + 1) old) (sym same) record {
    long = h.long;
    numbers = λ u l f. h.numbers u (elim (ℕ_discrete u t) [ yes p ↦ absurd (true≢false (sym f ∙ ap (is_number s) p ∙ sym e)) | no p ↦ omega arith ]) f;
    others = λ u n. h.others u (λ l. n (omega arith));
  }

  laid_number : {x : ℕ} → t < length old → true ≡ is_number s t → IntervalEncoded (pair_of s ps t) x → PairsLaid s ps (t + 1) old (set new t x)
  laid_number {x} low e w = record {
    long = length-set new t x ∙ h.long;
    numbers = λ u l f. at u l f (ℕ_discrete u t);
    others = λ u n.
        get_or-set_other new t u x 0 (λ p. true≢false (e ∙ ap (is_number s) (sym p) ∙ n (omega (arith, p))))
        ∙ h.others u (λ l. n (omega arith));
  }
    where
      at : (u : ℕ) → u < t + 1 → is_number s u ≡ true → Dec (u ≡ t) → IntervalEncoded (pair_of s ps u) (get_or (set new t x) u 0)
      at u l f (yes p) =
          subst (λ (k : ℕ). IntervalEncoded (pair_of s ps k) (get_or (set new t x) k 0)) (sym p)
          (subst (IntervalEncoded (pair_of s ps t)) (sym (get_or-set_same new t x 0 (omega (arith, h.long)))) w)
      at u l f (no p) = subst (IntervalEncoded (pair_of s ps u)) (sym (get_or-set_other new t u x 0 p)) (h.numbers u (omega (arith, p)) f)

  -- the next pair, at the next number term
  pub laid_pair : {x n : ℕ} {new' : List ℕ} → t < length old → true ≡ is_number s t → n ≡ numbers_below s t → get_or ps (2 * n) 0 < 65536
      → get_or ps (2 * n + 1) 0 < 65536 → x ≡ interval_word (get_or ps (2 * n) 0) (get_or ps (2 * n + 1) 0) → new' ≡ set new t x
      → PairsLaid s ps (t + 1) old new'
  laid_pair {x} low e q l m p same =
      subst (PairsLaid s ps (t + 1) old) (sym same)
      (laid_number low e (subst (IntervalEncoded (pair_of s ps t)) (sym p)
      (interval_encoded l m (ap (λ (k : ℕ). get_or ps (2 * k) 0) q) (ap (λ (k : ℕ). get_or ps (2 * k + 1) 0) q))))
