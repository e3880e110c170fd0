-- Nesting: what the list of depths holds, and what it says.
use mathlib.Core.Bool.{Bool, true, false, cond}
use mathlib.Core.List.{List}
use mathlib.Core.Path.{◌≡◌, refl, sym, ap, ◌∙◌, subst}
use Prim.Native.Nat.{ℕ, zero, suc, ◌+◌, ◌-◌, ◌<◌, ◌≤◌, min}
use native.Mathlib.Decide.{ℕ_discrete}
use native.Mathlib.Omega.{arith}
use lib.Dec.{leb, eqb}
use lib.ListN.{get_or, length, set}
use lib.Seq.{get_or-set_same, get_or-set_other}
use borrow.Author.Tests.{leb-true, leb-false, le-leb, lt-leb, eqb-true, eqb-false, eq-eqb, ne_eqb}
use Rattle.privileges.specs.Booleans.{and_left, and_right}
use Rattle.program.specs.Limits.{max_terms, max_nesting}
use Rattle.program.specs.Tests.{or_else}
use Rattle.program.specs.Layout.{terms, root}
use Rattle.program.specs.Screening.{lowest}
use Rattle.program.specs.Decoding.{times_below, placed_ok, parent, nested_in}
use Rattle.decoder.specs.Internal.{TermsOk, link_of, PlacesOk, Rising, nested_by, Nested, shallow_enough}
use Rattle.program.proofs.Laws.Screening.{lowest_none}
use Rattle.decoder.proofs.SearchLaws.{same_lowest}
use Rattle.decoder.proofs.PlaceLaws.{Higher, parent_higher}

-- ---- the list of depths
leb_iff : (a b c d : ℕ) → (a ≤ b → c ≤ d) → (b < a → d < c) → leb a b ≡ leb c d
leb_iff a b c d f g = go (leb a b) refl
  where
    go : (v : Bool) → leb a b ≡ v → leb a b ≡ leb c d
    go true e = e ∙ sym (le-leb c d (f (leb-true a b e)))
    go false e = e ∙ sym (lt-leb c d (g (leb-false a b e)))

-- the list has room for every term, and their nesting from t on
pub record NestedFrom (l d : List ℕ) (n t : ℕ) : Type 0 where
  pub below : t < n
  pub room : length d ≡ max_terms
  pub nested : Nested l d n t

pub nested_root : (l d : List ℕ) (n : ℕ) → 1 ≤ n → n ≤ length d → Nested l (set d (n - 1) 1) n (n - 1)
nested_root l d n h g = record { each = each' }
  where
    root_in : (x k : ℕ) → x ≡ n - 1 → nested_by l n k x ≡ leb 1 k
    root_in x zero e = refl
    root_in x (suc k) e = (λ i. or_else (eq-eqb x (n - 1) e i) (λ _. nested_by l n k (get_or l x 0))) ∙ sym (le-leb 1 (suc k) (omega arith))

    each' : (x : ℕ) → n - 1 ≤ x → x < n → (k : ℕ) → k ≤ max_nesting → nested_by l n k x ≡ leb (get_or (set d (n - 1) 1) x 0) k
    each' x p q k m =
        let e : x ≡ n - 1 = omega arith in
        let v : get_or (set d (n - 1) 1) x 0 ≡ 1 = ap (λ (z : ℕ). get_or (set d (n - 1) 1) z 0) e ∙ get_or-set_same d (n - 1) 1 0 (omega arith) in
        root_in x k e ∙ ap (λ (z : ℕ). leb z k) (sym v)

-- one term further down; v is one more than its parent's depth, held at 33
module _ (l d : List ℕ) (n t v : ℕ) (w : Nested l d n t) (r : Rising l n) (long : n ≤ length d) (lo : 0 < t) (hi : t < n)
    (gain : (k : ℕ) → k < max_nesting → leb (get_or d (get_or l (t - 1) 0) 0) k ≡ leb v (suc k)) (some-v : 1 ≤ v) where
  here : (k : ℕ) → k ≤ max_nesting → nested_by l n k (t - 1) ≡ leb v k
  here zero m = sym (lt-leb v 0 (omega arith))
  here (suc k) m =
      (λ i. or_else (ne_eqb (t - 1) (n - 1) (λ e. omega arith) i) (λ _. nested_by l n k (get_or l (t - 1) 0)))
      ∙ w.each (get_or l (t - 1) 0) (omega (arith, r.above (t - 1) (omega arith))) (r.inside (t - 1) (omega arith)) k (omega arith) ∙ gain k (omega arith)

  pub nested_more : Nested l (set d (t - 1) v) n (t - 1)
  nested_more = record {
    each = λ x p q k m. elim (ℕ_discrete x (t - 1)) [
      | yes e ↦ ap (nested_by l n k) e ∙ here k m ∙ ap (λ (z : ℕ). leb z k)
          (sym (get_or-set_same d (t - 1) v 0 (omega arith)) ∙ ap (λ (z : ℕ). get_or (set d (t - 1) v) z 0) (sym e))
      | no g ↦ w.each x (omega arith) q k m ∙ ap (λ (z : ℕ). leb z k) (sym (get_or-set_other d (t - 1) x v 0 g))
    ];
  }

-- one more than d, held
pub one_more : (d v k : ℕ) → v ≡ min (min (d + 1) 255) (max_nesting + 1) → k < max_nesting → leb d k ≡ leb v (suc k)
one_more d v k e h = leb_iff d k v (suc k) (λ f. omega arith) (λ f. omega arith)

-- ---- of a sheet whose places are right
module _ (s l : List ℕ) (T : TermsOk s) (few : terms s ≤ max_terms) (P : PlacesOk s l) where
  one_parent : (x : ℕ) → suc x < terms s → times_below s x (terms s) ≡ 1
  one_parent x h =
      let ok = lowest_none (placed_ok s) 0 (terms s) P.none_found x (omega arith) (omega arith) in
      let c : eqb (times_below s x (terms s)) (cond (eqb x (root s)) 0 1) ≡ true = search (and_left, and_right) in
      eqb-true (times_below s x (terms s)) (cond (eqb x (root s)) 0 1) c ∙ ap (λ (b : Bool). cond b 0 1) (ne_eqb x (root s) (λ e. omega arith))

  parent_noted : (x : ℕ) → suc x < terms s → get_or l x 0 ≡ parent s x (terms s)
  parent_noted x h = P.links.each x (omega arith) ∙ ap (λ (m : ℕ). link_of m (parent s x (terms s))) (one_parent x h)

  higher : (x : ℕ) → suc x < terms s → Higher s T x (terms s)
  higher x h = parent_higher s T x (terms s) (omega arith) (omega (arith, one_parent x h))

  pub rising : Rising l (terms s)
  rising = record {
    above = λ x h. omega (arith, parent_noted x h, (higher x h).above);
    inside = λ x h. omega (arith, parent_noted x h, (higher x h).inside);
  }

  nested_is : (k x : ℕ) → x < terms s → nested_by l (terms s) k x ≡ nested_in s k x
  nested_is zero x h = refl
  nested_is (suc k) x h = go (eqb x (root s)) refl (nested_is k)
    where
      go : (b : Bool) → eqb x (root s) ≡ b → ((y : ℕ) → y < terms s → nested_by l (terms s) k y ≡ nested_in s k y)
          → or_else (eqb x (root s)) (λ _. nested_by l (terms s) k (get_or l x 0)) ≡ or_else (eqb x (root s)) (λ _. nested_in s k (parent s x (terms s)))
      go true e before = (λ i. or_else (e i) (λ _. nested_by l (terms s) k (get_or l x 0)))
          ∙ sym (λ i. or_else (e i) (λ _. nested_in s k (parent s x (terms s))))
      go false e before =
          let n = eqb-false x (root s) e in
          let u : suc x < terms s = omega (arith, n) in
          (λ i. or_else (eqb x (root s)) (λ _. (before (get_or l x 0) (rising.inside x u) ∙ ap (nested_in s k) (parent_noted x u)) i))

  -- the search in the list of depths is the search for what is nested too deep
  pub deep_is : (d : List ℕ) → Nested l d (terms s) 0 → lowest (shallow_enough d) 0 (terms s) ≡ lowest (nested_in s max_nesting) 0 (terms s)
  deep_is d w = same_lowest (shallow_enough d) (nested_in s max_nesting) 0 (terms s)
      (λ x h. sym (w.each x (omega arith) (omega arith) max_nesting (omega arith)) ∙ nested_is max_nesting x (omega arith))

  -- the same by the number of terms that the code has
  module _ {n : ℕ} (e : n ≡ terms s) where
    pub rising_at : Rising l n
    rising_at = subst (Rising l) (sym e) rising

    pub deep_at : (d : List ℕ) → Nested l d n 0 → lowest (shallow_enough d) 0 n ≡ lowest (nested_in s max_nesting) 0 (terms s)
    deep_at d w = ap (lowest (shallow_enough d) 0) e ∙ deep_is d (subst (λ (m : ℕ). Nested l d m 0) e w)
