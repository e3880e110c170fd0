-- The laws of numbering without gaps: the new numbers of those that are kept rise without gaps, and their bytes are found again at their new numbers.
use Rattle.std.specs.Prelude.{Bool, ◌≡◌}
use Rattle.std.proofs.Math.Bool.{true, false, cond}
use Rattle.std.proofs.Common.{true≢false, ◌∙◌, mul-le-mul_left, get_or-append-add}
use mathlib.Core.List.{List, [], ◌++◌, append-nil}
use Rattle.std.proofs.Math.Path.{refl, sym, ap}
use Prim.Native.Nat.{ℕ, zero, suc, ◌+◌, ◌*◌, ◌<◌, ◌≤◌}
use Rattle.std.proofs.Math.Decide.{dec_lt}
use native.Mathlib.Omega.{arith}
use Rattle.std.proofs.Math.ListN.{length, length-append, get_or-append}
use Rattle.program.specs.Bytes.{byte}
use Rattle.erasure.specs.Kept.{kept_below, gather}

module _ (keep : ℕ → Bool) where
  pub kept_none : kept_below keep 0 ≡ 0
  unfolding kept_below
  kept_none = refl

  pub kept_yes : (n : ℕ) → keep n ≡ true → kept_below keep (suc n) ≡ kept_below keep n + 1
  unfolding kept_below
  kept_yes n e = ap (λ (b : Bool). kept_below keep n + cond b 1 0) e

  pub kept_no : (n : ℕ) → keep n ≡ false → kept_below keep (suc n) ≡ kept_below keep n
  unfolding kept_below
  kept_no n e = let z : kept_below keep n + 0 ≡ kept_below keep n = omega arith in ap (λ (b : Bool). kept_below keep n + cond b 1 0) e ∙ z

  kept_next : (n : ℕ) → (kept_below keep n ≤ kept_below keep (suc n)) × (kept_below keep (suc n) ≤ kept_below keep n + 1)
  kept_next n = go (keep n) refl
    where
      go : (b : Bool) → keep n ≡ b → (kept_below keep n ≤ kept_below keep (suc n)) × (kept_below keep (suc n) ≤ kept_below keep n + 1)
      go true e = (omega (arith, kept_yes n e), omega (arith, kept_yes n e))
      go false e = (omega (arith, kept_no n e), omega (arith, kept_no n e))

  pub kept_most : (n : ℕ) → kept_below keep n ≤ n
  kept_most zero = omega (arith, kept_none)
  kept_most (suc n) = omega (arith, kept_most n, (kept_next n).1)

  pub kept_mono : (a b : ℕ) → a ≤ b → kept_below keep a ≤ kept_below keep b
  kept_mono a zero h = let e : a ≡ 0 = omega arith in omega (arith, ap (kept_below keep) e)
  kept_mono a (suc b) h = go (dec_lt a (suc b)) (kept_mono a b)
    where
      go : Dec (a < suc b) → (a ≤ b → kept_below keep a ≤ kept_below keep b) → kept_below keep a ≤ kept_below keep (suc b)
      go (yes l) rest = omega (arith, rest (omega arith), (kept_next b).0)
      go (no l) rest = let e : a ≡ suc b = omega arith in omega (arith, ap (kept_below keep) e)

  -- one that is kept comes before all that follow it
  pub kept_strict : (a b : ℕ) → keep a ≡ true → a < b → kept_below keep a < kept_below keep b
  kept_strict a b k h = omega (arith, kept_yes a k, kept_mono (suc a) b (omega arith))

  pub kept_one : (a b : ℕ) → keep a ≡ true → keep b ≡ true → kept_below keep a ≡ kept_below keep b → a ≡ b
  kept_one a b ka kb e =
      let x : (a < b → ⊥) = λ l. omega (arith, kept_strict a b ka l) in
      let y : (b < a → ⊥) = λ l. omega (arith, kept_strict b a kb l) in
      omega (arith, x, y)

  -- every new number is that of one that is kept
  pub record Old (n k : ℕ) : Type 0 where
    pub old : ℕ
    pub below : old < n
    pub kept : keep old ≡ true
    pub number : kept_below keep old ≡ k

  pub old_of : (n k : ℕ) → k < kept_below keep n → Old n k
  old_of zero k h = absurd (omega (arith, kept_none))
  old_of (suc n) k h = go (keep n) refl (old_of n k)
    where
      more : Old n k → Old (suc n) k
      more o = record { old = o.old; below = omega (arith, o.below); kept = o.kept; number = o.number }

      go : (b : Bool) → keep n ≡ b → (k < kept_below keep n → Old n k) → Old (suc n) k
      go false e rest = more (rest (omega (arith, kept_no n e)))
      go true e rest = elim (dec_lt k (kept_below keep n)) [
        | yes l ↦ more (rest l)
        | no l ↦ record { old = n; below = omega arith; kept = e; number = omega (arith, kept_yes n e) }
      ]

  -- ---- the bytes of those that are kept, of one width
  module _ (bytes : ℕ → List ℕ) (w : ℕ) (wide : (t : ℕ) → length (bytes t) ≡ w) where
    pub gather_yes : (n : ℕ) → keep n ≡ true → gather keep bytes (suc n) ≡ gather keep bytes n ++ bytes n
    unfolding gather
    gather_yes n e = ap (λ (b : Bool). gather keep bytes n ++ cond b (bytes n) []) e

    pub gather_no : (n : ℕ) → keep n ≡ false → gather keep bytes (suc n) ≡ gather keep bytes n
    unfolding gather
    gather_no n e = ap (λ (b : Bool). gather keep bytes n ++ cond b (bytes n) []) e ∙ append-nil (gather keep bytes n)

    times_more : (a : ℕ) → w * (a + 1) ≡ w * a + w
    times_more a = omega arith

    pub gather_length : (n : ℕ) → length (gather keep bytes n) ≡ w * kept_below keep n
    unfolding gather kept_below
    gather_length zero = omega arith
    gather_length (suc n) = go (keep n) refl (gather_length n)
      where
        go : (b : Bool) → keep n ≡ b → length (gather keep bytes n) ≡ w * kept_below keep n → length (gather keep bytes (suc n)) ≡ w * kept_below keep (suc n)
        go true e ih =
            ap length (gather_yes n e) ∙ length-append (gather keep bytes n) (bytes n) ∙ (λ i. ih i + wide n i) ∙ sym (times_more (kept_below keep n))
            ∙ ap (λ (x : ℕ). w * x) (sym (kept_yes n e))
        go false e ih = ap length (gather_no n e) ∙ ih ∙ ap (λ (x : ℕ). w * x) (sym (kept_no n e))

    pub gather_inside : (n t : ℕ) → keep t ≡ true → t < n → (j : ℕ) → j < w → w * kept_below keep t + j < length (gather keep bytes n)
    gather_inside n t k l j h =
        let past : w * (kept_below keep t + 1) ≤ w * kept_below keep n =
        mul-le-mul_left {m = kept_below keep t + 1} {n = kept_below keep n} w (omega (arith, kept_strict t n k l)) in
        omega (arith, gather_length n, times_more (kept_below keep t))

    pub gather_at : (n t : ℕ) → keep t ≡ true → t < n → (j : ℕ) → j < w → byte (gather keep bytes n) (w * kept_below keep t + j) ≡ byte (bytes t) j
    gather_at zero t k l j h = absurd (omega arith)
    gather_at (suc n) t k l j h = go (keep n) refl (dec_lt t n) (gather_at n t k)
      where
        go : (b : Bool) → keep n ≡ b → Dec (t < n) → (t < n → (j : ℕ) → j < w → byte (gather keep bytes n) (w * kept_below keep t + j) ≡ byte (bytes t) j)
            → byte (gather keep bytes (suc n)) (w * kept_below keep t + j) ≡ byte (bytes t) j
        go true e (yes m) rest =
            ap (λ (x : List ℕ). byte x (w * kept_below keep t + j)) (gather_yes n e)
            ∙ get_or-append (gather keep bytes n) (bytes n) 0 (w * kept_below keep t + j) (gather_inside n t k m j h) ∙ rest m j h
        go true e (no m) rest =
            let q : t ≡ n = omega arith in
            (λ i. byte (gather_yes n e i) (w * kept_below keep (q i) + j))
            ∙ ap (λ (x : ℕ). byte (gather keep bytes n ++ bytes n) (x + j)) (sym (gather_length n))
            ∙ get_or-append-add (gather keep bytes n) (bytes n) j 0 ∙ ap (λ (x : ℕ). byte (bytes x) j) (sym q)
        go false e (yes m) rest = ap (λ (x : List ℕ). byte x (w * kept_below keep t + j)) (gather_no n e) ∙ rest m j h
        go false e (no m) rest = let q : t ≡ n = omega arith in absurd (true≢false (sym k ∙ ap keep q ∙ e))
