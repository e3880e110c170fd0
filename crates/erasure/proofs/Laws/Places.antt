-- Parents and signs of a lean sheet: every new term but the root stands once as a child, and the root and all bodies are signs.
--
-- A term x that is kept stands in the new sheet where a child of a kept term is replaced by x. The terms that x replaces are x itself and checks and enables.
-- Each of them, but for the root, stands once as a child, and those that stand below a check or enable are as many as the checks and enables among them. So
-- one is left, whose parent is kept.
use Rattle.std.specs.Prelude.{Bool, true, false, not, cond, ◌&&◌, ◌||◌, List, ◌≡◌, refl, ℕ, zero, suc, ◌+◌, ◌<◌, ◌≤◌, ltb, eqb}
use Rattle.std.proofs.Common.{true≢false, ⊎_elim, sym, ◌∙◌, arith}
use Rattle.std.proofs.Math.Path.{ap, subst}
use Rattle.std.proofs.Math.Decide.{dec_lt, ℕ_discrete}
use borrow.Author.Tests.{eqb-true, eq-eqb, ne_eqb, lt-ltb, le-ltb}
use Rattle.program.specs.Bytes.{bit}
use Rattle.privileges.specs.Booleans.{and_both, bool_ext}
use Rattle.program.specs.Layout.{terms, root, kind_byte, first, second, third}
use Rattle.program.specs.Formats.{Part, unused, flag, any_number, privilege, principal, channel, function_type, child, body_child, is_child, Kind, Check, Enable, kind_of, format}
use Rattle.program.specs.Decoding.{format_at, child_count, times_in, times_below, is_sign, signed_body, placed_ok}
use Rattle.program.proofs.Laws.Readable.{WellFormed}
use Rattle.program.proofs.Laws.Trees.{below, placed}
use Rattle.erasure.specs.Kept.{kept_below}
use Rattle.erasure.specs.Lean.{is_erased, kept_term, inner, new_terms, new_term, new_part, lean_sheet}
use Rattle.erasure.proofs.Laws.Kept.{kept_none, kept_yes, kept_no, kept_one, old_of}
use Rattle.erasure.proofs.Laws.Bytes.{terms_are, term_kind, term_first, term_second, term_third}
use Rattle.erasure.proofs.Laws.Terms.{idle_named, kept_idle, idle_kept, idle_gone, sign_kept, inner_of, inner_kept, inner_idle, term_kept, root_kept, new_root, same_format}

-- ---- sums over the terms that x replaces
module _ (s : List ℕ) (x : ℕ) where
  abbrev pub replaces : (y : ℕ) → Bool
  replaces y = eqb (inner s y) x

  abbrev chosen : (ℕ → ℕ) → (count : ℕ) → ℕ
  chosen f zero = 0
  chosen f (suc y) = chosen f y + cond (replaces y) (f y) 0

  chosen_ext : (f g : ℕ → ℕ) (n : ℕ) → ((y : ℕ) → y < n → inner s y ≡ x → f y ≡ g y) → chosen f n ≡ chosen g n
  chosen_ext f g zero h = refl
  chosen_ext f g (suc n) h = λ i. chosen_ext f g n (λ y l. h y (omega arith)) i + go (replaces n) refl i
    where
      go : (b : Bool) → replaces n ≡ b → cond b (f n) 0 ≡ cond b (g n) 0
      go true e = h n (omega arith) (eqb-true (inner s n) x e)
      go false e = refl

  chosen_add : (f g : ℕ → ℕ) (n : ℕ) → chosen (λ y. f y + g y) n ≡ chosen f n + chosen g n
  chosen_add f g zero = refl
  chosen_add f g (suc n) = go (replaces n) (chosen_add f g n)
    where
      go : (b : Bool) → chosen (λ y. f y + g y) n ≡ chosen f n + chosen g n
          → chosen (λ y. f y + g y) n + cond b (f n + g n) 0 ≡ chosen f n + cond b (f n) 0 + (chosen g n + cond b (g n) 0)
      go true e = omega arith
      go false e = omega arith

  chosen_zero : (n : ℕ) → chosen (λ y. 0) n ≡ 0
  chosen_zero zero = refl
  chosen_zero (suc n) = go (replaces n) (chosen_zero n)
    where
      go : (b : Bool) → chosen (λ y. 0) n ≡ 0 → chosen (λ y. 0) n + cond b 0 0 ≡ 0
      go true e = omega arith
      go false e = omega arith

  -- of one term
  chosen_past : (v n : ℕ) → n ≤ v → chosen (λ y. bit (eqb v y)) n ≡ 0
  chosen_past v n h =
      chosen_ext (λ y. bit (eqb v y)) (λ y. 0) n (λ y l e. ap bit (ne_eqb v y (λ q. omega (arith, q)))) ∙ chosen_zero n

  chosen_single : (v n : ℕ) → v < n → chosen (λ y. bit (eqb v y)) n ≡ bit (replaces v)
  chosen_single v zero h = absurd (omega arith)
  chosen_single v (suc n) h = go (ℕ_discrete v n) (chosen_single v n)
    where
      go : Dec (v ≡ n) → (v < n → chosen (λ y. bit (eqb v y)) n ≡ bit (replaces v))
          → chosen (λ y. bit (eqb v y)) n + cond (replaces n) (bit (eqb v n)) 0 ≡ bit (replaces v)
      go (yes e) rest =
          let z : 0 + bit (replaces n) ≡ bit (replaces n) = omega arith in
          (λ i. chosen_past v n (omega arith) i + cond (replaces n) (bit (eq-eqb v n e i)) 0) ∙ z ∙ ap (λ (y : ℕ). bit (replaces y)) (sym e)
      go (no e) rest =
          (λ i. rest (omega arith) i + cond (replaces n) (bit (ne_eqb v n e i)) 0) ∙ last (replaces n)
        where
          last : (b : Bool) → bit (replaces v) + cond b 0 0 ≡ bit (replaces v)
          last true = omega arith
          last false = omega arith

  -- ---- the children that x replaces
  -- a part that holds a child which x replaces
  abbrev pub stands : Part → (value : ℕ) → ℕ
  stands p v = bit (is_child p && replaces v)

  abbrev pub stands_in : (t : ℕ) → ℕ
  stands_in t = stands (format_at s t).first (first s t) + stands (format_at s t).second (second s t) + stands (format_at s t).third (third s t)

  chosen_part : (b : Bool) (v n : ℕ) → (b ≡ true → v < n) → chosen (λ y. bit (b && eqb v y)) n ≡ bit (b && replaces v)
  chosen_part true v n h = chosen_single v n (h refl)
  chosen_part false v n h = chosen_zero n

  chosen_in : WellFormed s → (t n : ℕ) → t < terms s → t ≤ n → chosen (λ y. times_in s y t) n ≡ stands_in t
  chosen_in w t n l h =
      let c = below s w t l in
      let part : (p : Part) (v : ℕ) → (is_child p ≡ true → v < t) → chosen (λ y. child_count p v y) n ≡ stands p v =
      λ p v g. chosen_part (is_child p) v n (λ e. omega (arith, g e)) in
      chosen_add (λ y. child_count (format_at s t).first (first s t) y + child_count (format_at s t).second (second s t) y)
      (λ y. child_count (format_at s t).third (third s t) y) n
      ∙ (λ i. chosen_add (λ y. child_count (format_at s t).first (first s t) y) (λ y. child_count (format_at s t).second (second s t) y) n i
      + part (format_at s t).third (third s t) c.third_below i)
      ∙ λ i. part (format_at s t).first (first s t) c.first_below i + part (format_at s t).second (second s t) c.second_below i
      + stands (format_at s t).third (third s t)

  -- among the children of kept terms, and of checks and enables
  abbrev kept_stands : (count : ℕ) → ℕ
  kept_stands zero = 0
  kept_stands (suc t) = cond (is_erased s t) 0 (stands_in t) + kept_stands t

  abbrev idle_stands : (count : ℕ) → ℕ
  idle_stands zero = 0
  idle_stands (suc t) = idle_stands t + cond (is_erased s t) (bit (replaces t)) 0

  -- a check or enable has one child, which is replaced by the same term
  idle_stands_lem : WellFormed s → (t : ℕ) → t < terms s → is_erased s t ≡ true → stands_in t ≡ bit (replaces t)
  idle_stands_lem w t l e =
      let same : (K : Kind) → kind_of (kind_byte s t) ≡ K → is_child (format K).first ≡ true → is_child (format K).second ≡ false
      → is_child (format K).third ≡ false → stands_in t ≡ bit (replaces t) =
      λ K q a b c. (λ i. bit (ap (λ (k : Kind). is_child (format k).first) q i && replaces (first s t))
      + bit (ap (λ (k : Kind). is_child (format k).second) q i && replaces (second s t))
      + bit (ap (λ (k : Kind). is_child (format k).third) q i && replaces (third s t)))
      ∙ (λ i. bit (a i && replaces (first s t)) + bit (b i && replaces (second s t)) + bit (c i && replaces (third s t)))
      ∙ only (replaces (first s t)) ∙ ap (λ (y : ℕ). bit (eqb y x)) (sym (inner_idle s w t l e)) in
      ⊎_elim (λ q. same Check q refl refl refl) (λ q. same Enable q refl refl refl) (idle_named s t e)
    where
      only : (b : Bool) → bit b + 0 + 0 ≡ bit b
      only b = omega arith

  balance : WellFormed s → (n : ℕ) → n ≤ terms s → chosen (λ y. times_below s y n) (terms s) ≡ kept_stands n + idle_stands n
  balance w zero h = chosen_zero (terms s)
  balance w (suc t) h =
      let l : t < terms s = omega arith in
      chosen_add (λ y. times_in s y t) (λ y. times_below s y t) (terms s)
      ∙ (λ i. chosen_in w t (terms s) l (omega arith) i + balance w t (omega arith) i) ∙ go (is_erased s t) refl
    where
      go : (b : Bool) → is_erased s t ≡ b → stands_in t + (kept_stands t + idle_stands t)
          ≡ cond b 0 (stands_in t) + kept_stands t + (idle_stands t + cond b (bit (replaces t)) 0)
      go true e = omega (arith, idle_stands_lem w t (omega arith) e)
      go false e = omega arith

  -- ---- the terms that x replaces: itself, and checks and enables
  past_more : (y : ℕ) → (y ≡ x → ⊥) → bit (ltb x (suc y)) ≡ bit (ltb x y)
  past_more y q = elim (dec_lt x y) [
    | yes l ↦ ap bit (lt-ltb x (suc y) (omega arith) ∙ sym (lt-ltb x y l))
    | no l ↦ ap bit (le-ltb x (suc y) (omega (arith, q)) ∙ sym (le-ltb x y (omega arith)))
  ]

  total : kept_term s x ≡ true → WellFormed s → (n : ℕ) → n ≤ terms s → chosen (λ y. 1) n ≡ idle_stands n + bit (ltb x n)
  total k w zero h = omega (arith, ap bit (le-ltb x 0 (omega arith)))
  total k w (suc y) h = go (is_erased s y) refl (ℕ_discrete y x) (total k w y (omega arith))
    where
      go : (b : Bool) → is_erased s y ≡ b → Dec (y ≡ x) → chosen (λ y. 1) y ≡ idle_stands y + bit (ltb x y)
          → chosen (λ y. 1) y + bit (replaces y) ≡ idle_stands y + cond b (bit (replaces y)) 0 + bit (ltb x (suc y))
      go true e (yes q) rest = absurd (true≢false (sym e ∙ ap (is_erased s) q ∙ kept_idle s x k))
      go true e (no q) rest = omega (arith, rest, past_more y q)
      go false e (yes q) rest =
          let m : inner s y ≡ x = inner_kept s w y (idle_kept s y e) ∙ q in
          omega (arith, rest, ap bit (eq-eqb (inner s y) x m), ap bit (lt-ltb x (suc y) (omega arith)), ap bit (le-ltb x y (omega arith)))
      go false e (no q) rest =
          let m : (inner s y ≡ x → ⊥) = λ r. q (sym (inner_kept s w y (idle_kept s y e)) ∙ r) in
          omega (arith, rest, past_more y q, ap bit (ne_eqb (inner s y) x m))

  -- ---- so one child of a kept term is left to be replaced by x, and none by the root
  times : WellFormed s → (y : ℕ) → y < terms s → times_below s y (terms s) ≡ cond (eqb y (root s)) 0 1
  times w y l = (placed s w y l).times

  kept_stands_lem : WellFormed s → kept_term s x ≡ true → x < terms s → kept_stands (terms s) ≡ cond (eqb x (root s)) 0 1
  kept_stands_lem w k l = go (ℕ_discrete x (root s))
    where
      even : chosen (λ y. times_below s y (terms s)) (terms s) ≡ kept_stands (terms s) + idle_stands (terms s)
      even = balance w (terms s) (omega arith)

      go : Dec (x ≡ root s) → kept_stands (terms s) ≡ cond (eqb x (root s)) 0 1
      go (yes q) =
          let none : chosen (λ y. times_below s y (terms s)) (terms s) ≡ 0 = chosen_ext (λ y. times_below s y (terms s)) (λ y. 0) (terms s)
          (λ y h e. times w y h ∙ ap (λ (b : Bool). cond b 0 1)
          (eq-eqb y (root s) (omega (arith, (inner_of s w y h).low, e, q)))) ∙ chosen_zero (terms s) in
          let zero_is : kept_stands (terms s) ≡ 0 = omega (arith, even, none) in
          zero_is ∙ ap (λ (b : Bool). cond b 0 1) (sym (eq-eqb x (root s) q))
      go (no q) =
          let each : chosen (λ y. times_below s y (terms s)) (terms s) ≡ chosen (λ y. 1) (terms s) =
          chosen_ext (λ y. times_below s y (terms s)) (λ y. 1) (terms s)
          (λ y h e. times w y h ∙ ap (λ (b : Bool). cond b 0 1)
          (ne_eqb y (root s) (λ r. q (sym e ∙ ap (inner s) r ∙ inner_kept s w (root s) (root_kept s w))))) in
          let one-is : kept_stands (terms s) ≡ 1 = omega (arith, even, each, total k w (terms s) (omega arith), ap bit (lt-ltb x (terms s) l)) in
          one-is ∙ ap (λ (b : Bool). cond b 0 1) (sym (ne_eqb x (root s) q))

-- a child of t is one that its own inner term replaces
pub stands_child : (s : List ℕ) (x t : ℕ) → 0 < times_in s x t → 0 < stands_in s (inner s x) t
stands_child s x t h =
    omega (arith, part (format_at s t).first (first s t), part (format_at s t).second (second s t), part (format_at s t).third (third s t))
  where
    part : (p : Part) (v : ℕ) → child_count p v x ≤ stands s (inner s x) p v
    part p v = go (is_child p) (eqb v x) refl
      where
        go : (a b : Bool) → eqb v x ≡ b → cond (a && b) 1 0 ≤ cond (a && eqb (inner s v) (inner s x)) 1 0
        go false b e = omega arith
        go true false e = omega arith
        go true true e = omega (arith, ap {B = ℕ} (λ (z : Bool). cond z 1 0) (eq-eqb (inner s v) (inner s x) (ap (inner s) (eqb-true v x e))))

-- ---- the new sheet
module _ (s : List ℕ) (w : WellFormed s) where
  -- a part of a new record holds x's new number where the old one held a child that x replaces
  same_number : (v x : ℕ) → v < terms s → kept_term s x ≡ true → eqb (new_term s v) (kept_below (kept_term s) x) ≡ eqb (inner s v) x
  unfolding new_term
  same_number v x l k =
      bool_ext (eqb (kept_below (kept_term s) (inner s v)) (kept_below (kept_term s) x)) (eqb (inner s v) x)
      (λ e. eq-eqb (inner s v) x (kept_one (kept_term s) (inner s v) x (inner_of s w v l).kept k
      (eqb-true (kept_below (kept_term s) (inner s v)) (kept_below (kept_term s) x) e)))
      (λ e. eq-eqb (kept_below (kept_term s) (inner s v)) (kept_below (kept_term s) x) (ap (kept_below (kept_term s)) (eqb-true (inner s v) x e)))

  part_counts : (x : ℕ) → kept_term s x ≡ true → (p : Part) (v : ℕ) → (is_child p ≡ true → v < terms s)
      → child_count p (new_part s p v) (kept_below (kept_term s) x) ≡ stands s x p v
  part_counts x k unused v h = refl
  part_counts x k flag v h = refl
  part_counts x k any_number v h = refl
  part_counts x k privilege v h = refl
  part_counts x k principal v h = refl
  part_counts x k channel v h = refl
  part_counts x k function_type v h = refl
  part_counts x k child v h = ap (λ (b : Bool). cond b 1 0) (same_number v x (h refl) k)
  part_counts x k body_child v h = ap (λ (b : Bool). cond b 1 0) (same_number v x (h refl) k)

  pub new_times_in : (x t : ℕ) → kept_term s x ≡ true → kept_term s t ≡ true → t < terms s
      → times_in (lean_sheet s) (kept_below (kept_term s) x) (kept_below (kept_term s) t) ≡ stands_in s x t
  new_times_in x t k g l =
      let c = below s w t l in
      let n : ℕ = kept_below (kept_term s) x in
      (λ i. child_count (same_format s w t g l i).first (term_first s w t g l i) n + child_count (same_format s w t g l i).second (term_second s w t g l i) n
      + child_count (same_format s w t g l i).third (term_third s w t g l i) n)
      ∙ λ i. part_counts x k (format_at s t).first (first s t) (λ e. omega (arith, c.first_below e)) i
      + part_counts x k (format_at s t).second (second s t) (λ e. omega (arith, c.second_below e)) i
      + part_counts x k (format_at s t).third (third s t) (λ e. omega (arith, c.third_below e)) i

  new_times_below : (x n : ℕ) → kept_term s x ≡ true → n ≤ terms s
      → times_below (lean_sheet s) (kept_below (kept_term s) x) (kept_below (kept_term s) n) ≡ kept_stands s x n
  new_times_below x zero k h = ap (times_below (lean_sheet s) (kept_below (kept_term s) x)) (kept_none (kept_term s))
  new_times_below x (suc t) k h = go (is_erased s t) refl (new_times_below x t k (omega arith))
    where
      go : (b : Bool) → is_erased s t ≡ b → times_below (lean_sheet s) (kept_below (kept_term s) x) (kept_below (kept_term s) t) ≡ kept_stands s x t
          → times_below (lean_sheet s) (kept_below (kept_term s) x) (kept_below (kept_term s) (suc t)) ≡ cond b 0 (stands_in s x t) + kept_stands s x t
      go true e rest =
          let z : kept_stands s x t ≡ 0 + kept_stands s x t = omega arith in
          ap (times_below (lean_sheet s) (kept_below (kept_term s) x)) (kept_no (kept_term s) t (idle_gone s t e)) ∙ rest ∙ z
      go false e rest =
          let g = idle_kept s t e in
          let n : kept_below (kept_term s) (suc t) ≡ suc (kept_below (kept_term s) t) = omega (arith, kept_yes (kept_term s) t g) in
          ap (times_below (lean_sheet s) (kept_below (kept_term s) x)) n ∙ λ i. new_times_in x t k g (omega arith) i + rest i

  -- "Every term but the root stands once as a child."
  pub new_times : (x : ℕ) → kept_term s x ≡ true → x < terms s
      → times_below (lean_sheet s) (kept_below (kept_term s) x) (terms (lean_sheet s)) ≡ cond (eqb x (root s)) 0 1
  unfolding new_terms
  new_times x k l =
      ap (times_below (lean_sheet s) (kept_below (kept_term s) x)) (terms_are s w) ∙ new_times_below x (terms s) k (omega arith) ∙ kept_stands_lem s x w k l

  -- "The root and all bodies of kinds 3 and 4 are signs."
  new_sign : (t : ℕ) → t < terms s → is_sign s t ≡ true → is_sign (lean_sheet s) (new_term s t) ≡ true
  new_sign t l h =
      let k = sign_kept s t h in
      ap (is_sign (lean_sheet s)) (term_kept s w t k) ∙ ap (λ (x : ℕ). eqb x 9) (term_kind s w t k l) ∙ h

  new_body : (p : Part) (v : ℕ) → (is_child p ≡ true → v < terms s) → signed_body s p v ≡ true → signed_body (lean_sheet s) p (new_part s p v) ≡ true
  new_body unused v l h = refl
  new_body flag v l h = refl
  new_body any_number v l h = refl
  new_body privilege v l h = refl
  new_body principal v l h = refl
  new_body channel v l h = refl
  new_body function_type v l h = refl
  new_body child v l h = refl
  new_body body_child v l h = new_sign v (l refl) h

  same_root : (t : ℕ) → kept_term s t ≡ true → eqb (kept_below (kept_term s) t) (root (lean_sheet s)) ≡ eqb t (root s)
  same_root t k =
      let r : root (lean_sheet s) ≡ kept_below (kept_term s) (root s) = sym (new_root s w) ∙ term_kept s w (root s) (root_kept s w) in
      ap (eqb (kept_below (kept_term s) t)) r
      ∙ bool_ext (eqb (kept_below (kept_term s) t) (kept_below (kept_term s) (root s))) (eqb t (root s))
      (λ e. eq-eqb t (root s) (kept_one (kept_term s) t (root s) k (root_kept s w)
      (eqb-true (kept_below (kept_term s) t) (kept_below (kept_term s) (root s)) e)))
      (λ e. eq-eqb (kept_below (kept_term s) t) (kept_below (kept_term s) (root s)) (ap (kept_below (kept_term s)) (eqb-true t (root s) e)))

  kept_placed_ok : (t : ℕ) → kept_term s t ≡ true → t < terms s → placed_ok (lean_sheet s) (kept_below (kept_term s) t) ≡ true
  kept_placed_ok t k l =
      let p = placed s w t l in
      let c = below s w t l in
      (λ i. eqb (new_times t k l i) (cond (same_root t k i) 0 1) && signed_body (lean_sheet s) (same_format s w t k l i).second (term_second s w t k l i)
      && (not (same_root t k i) || eqb (term_kind s w t k l i) 9))
      ∙ and_both (and_both (eq-eqb (cond (eqb t (root s)) 0 1) (cond (eqb t (root s)) 0 1) refl)
      (new_body (format_at s t).second (second s t) (λ e. omega (arith, c.second_below e)) p.body_signed)) p.root_signed

  pub new_placed_ok : (n : ℕ) → n < new_terms s → placed_ok (lean_sheet s) n ≡ true
  unfolding new_terms
  new_placed_ok n h =
      let o = old_of (kept_term s) (terms s) n h in
      subst (λ (x : ℕ). placed_ok (lean_sheet s) x ≡ true) o.number (kept_placed_ok o.old o.kept o.below)
