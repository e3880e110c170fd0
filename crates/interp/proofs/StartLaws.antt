-- The start stack by its numbers, from a place on.
use mathlib.Core.Bool.{false}
use mathlib.Core.List.{List, [], ◌∷◌, ◌++◌}
use mathlib.Core.Path.{◌≡◌, refl, sym, ap, ◌∙◌}
use Prim.Native.Nat.{ℕ, zero, suc, ◌+◌, ◌-◌, ◌*◌, ◌/◌, ◌%◌, ◌<◌, ◌≤◌}
use native.Mathlib.Omega.{arith}
use native.Mathlib.Numerals.{unary_clauses}
use lib.ListN.{length, get_or, set, drop, length-append, length-drop, length-set}
use borrow.Author.Tests.{lt-ltb, le-ltb, lt-leb, le-leb, eq-eqb, ne_eqb}
use Rattle.semantics.specs.Access.{Frame, frame}
use Rattle.semantics.specs.Runs.{stack, principals_known, stack_ok}
use Rattle.refinement.specs.Claims.{laid_out}
use Rattle.program.specs.Limits.{max_start}

-- ---- one frame
abbrev at : List ℕ → ℕ → ℕ
at l i = get_or l i 0

pub stack_frame : (l : List ℕ) (i : ℕ) → i + 1 < length l → stack (drop i l) ≡ frame (at l i) (at l (i + 1)) ∷ stack (drop (i + 2) l)
stack_frame [] i h = absurd (omega (arith, h))
stack_frame (x ∷ []) zero h = absurd (omega (arith, h))
stack_frame (x ∷ y ∷ l) zero h = refl
stack_frame (x ∷ l) (suc i) h = simp unary_clauses (simp unary_clauses at (stack_frame l i (omega (arith, h))))

-- ---- known principals
module _ (count : ℕ) (l : List ℕ) (i : ℕ) where
  pub unknown_here : i + 1 < length l → count ≤ at l i → false ≡ principals_known count (stack (drop i l))
  unknown_here h u = rw (stack_frame l i h, le-ltb (at l i) count u) refl

  pub known_here : i + 1 < length l → at l i < count → principals_known count (stack (drop i l)) ≡ principals_known count (stack (drop (i + 2) l))
  known_here h u = rw (stack_frame l i h, lt-ltb (at l i) count u) refl

-- ---- backwards: the frame before a place
pub stack_before : (l : List ℕ) (j : ℕ) → 2 ≤ j → j ≤ length l → stack (drop (j - 2) l) ≡ frame (at l (j - 2)) (at l (j - 2 + 1)) ∷ stack (drop j l)
stack_before l j h k =
    let e : j - 2 + 2 ≡ j = omega (arith, h) in
    stack_frame l (j - 2) (omega (arith, h, k)) ∙ ap (λ (n : ℕ). frame (at l (j - 2)) (at l (j - 2 + 1)) ∷ stack (drop n l)) e

-- ---- the frame store
-- the frames of the last n numbers are laid into the store f, before place n; g is the store then
pub record LaidFrom (A : ℕ → ℕ) (l f g : List ℕ) (n : ℕ) : Type 0 where
  pub room : length g ≡ length f
  pub laid : g ≡ laid_out A (stack (drop (length l - n) l)) ++ drop n f

two_set : (L f : List ℕ) (n a b : ℕ) → length L ≡ n → n + 2 ≤ length f → set (set (L ++ drop n f) n a) (n + 1) b ≡ (L ++ (a ∷ b ∷ [])) ++ drop (n + 2) f
two_set L [] n a b e h = absurd (omega (arith, h))
two_set [] (x ∷ []) zero a b e h = absurd (omega (arith, h))
two_set [] (x ∷ y ∷ f) zero a b e h = refl
two_set [] (x ∷ f) (suc n) a b e h = absurd (omega (arith, e))
two_set (x ∷ L) (y ∷ f) zero a b e h = absurd (omega (arith, e))
two_set (x ∷ L) (y ∷ f) (suc n) a b e h = simp unary_clauses
    (simp unary_clauses at (ap (λ (r : List ℕ). x ∷ r) (two_set L f n a b (omega (arith, e)) (omega (arith, h)))))

-- a whole number of frames lies behind a place; A gives the set that a frame's principal may use
pub laid_length : (A : ℕ → ℕ) (l : List ℕ) → length l % 2 ≡ 0 → length (laid_out A (stack l)) ≡ length l
laid_length A [] e = refl
laid_length A (x ∷ []) e = absurd (omega (arith, e))
laid_length A (x ∷ y ∷ l) e = length-append (laid_out A (stack l)) _ ∙ omega (arith, laid_length A l (omega (arith, e)))

module _ (A : ℕ → ℕ) (l f : List ℕ) where
  -- the two numbers of one frame more
  pub lay_more : {g : List ℕ} {m : ℕ} (j n : ℕ) → j % 2 ≡ 0 → 2 ≤ j → j + n ≡ length l → length l % 2 ≡ 0 → length l ≤ length f → m ≡ A (at l (j - 2))
      → g ≡ laid_out A (stack (drop j l)) ++ drop n f
      → set (set g n m) (n + 1) (at l (j - 2 + 1)) ≡ laid_out A (stack (drop (j - 2) l)) ++ drop (n + 2) f
  lay_more j n e h k w r p q =
      (λ i. set (set (q i) n (p i)) (n + 1) (at l (j - 2 + 1)))
      ∙ two_set (laid_out A (stack (drop j l))) f n (A (at l (j - 2))) (at l (j - 2 + 1)) long (omega (arith, h, k, r))
      ∙ ap (λ (x : List Frame). laid_out A x ++ drop (n + 2) f) (sym (stack_before l j h (omega (arith, k))))
    where
      behind : length (drop j l) ≡ n
      behind = length-drop j l ∙ omega (arith, k)

      long : length (laid_out A (stack (drop j l))) ≡ n
      long = laid_length A (drop j l) (omega (arith, behind, e, k, w)) ∙ behind

  -- the outermost frame of those that are left
  pub laid_next : {g : List ℕ} {m : ℕ} (i : ℕ) → LaidFrom A l f g (2 * i) → i < length l / 2 → length l % 2 ≡ 0 → length l ≤ length f
      → m ≡ A (at l (length l - 2 * (i + 1)))
      → LaidFrom A l f (set (set g (2 * i) m) (2 * i + 1) (at l (length l - 2 * (i + 1) + 1))) (2 * (i + 1))
  laid_next {g} {m} i D h w r p =
      let back : length l - 2 * (i + 1) ≡ length l - 2 * i - 2 = omega arith in
      let on : 2 * (i + 1) ≡ 2 * i + 2 = omega arith in
      record {
        room = simp length-set D.room;
        laid = ap (λ (k : ℕ). set (set g (2 * i) m) (2 * i + 1) (at l (k + 1))) back
            ∙ lay_more (length l - 2 * i) (2 * i) (omega (arith, w)) (omega (arith, h, w)) (omega (arith, h, w)) w r
            (p ∙ ap (λ (k : ℕ). A (at l k)) back) D.laid
            ∙ (λ x. laid_out A (stack (drop (sym back x) l)) ++ drop (sym on x) f);
      }

-- ---- 14, test by test
module _ (count : ℕ) (l : List ℕ) where
  pub start_long : max_start < length l → false ≡ stack_ok count l
  start_long h = rw (lt-leb (length l) max_start h) refl

  pub start_half : length l ≤ max_start → (length l % 2 ≡ 0 → ⊥) → false ≡ stack_ok count l
  start_half h e = rw (le-leb (length l) max_start h, ne_eqb (length l % 2) 0 e) refl

  pub start_whole : length l ≤ max_start → length l % 2 ≡ 0 → principals_known count (stack l) ≡ stack_ok count l
  start_whole h e = rw (le-leb (length l) max_start h, eq-eqb (length l % 2) 0 e) refl
