-- Nesting of a lean sheet: a new term is nested no deeper than the old one.
use Rattle.std.specs.Prelude.{Bool, false, ◌&&◌, List, ◌≡◌, refl, eqb}
use Rattle.std.proofs.Math.Bool.{true, cond}
use Rattle.std.proofs.lemmas.Bool.{false≢true, eqb-false}
use Rattle.std.proofs.Common.{⊎_elim, ◌∙◌, eqb-true, eq-eqb, ne_eqb}
use Rattle.std.proofs.Math.Path.{sym, ap, subst}
use Prim.Native.Nat.{ℕ, zero, suc, ◌+◌, ◌<◌}
use Rattle.std.proofs.Math.Decide.{ℕ_discrete}
use native.Mathlib.Omega.{arith}
use Rattle.program.specs.Tests.{or_else}
use Rattle.program.specs.Limits.{max_nesting}
use Rattle.program.specs.Layout.{terms, root, kind_byte, first, second, third}
use Rattle.program.specs.Formats.{is_child, Kind, Check, Enable, kind_of, format}
use Rattle.program.specs.Decoding.{format_at, times_in, times_below, parent, nested_in}
use Rattle.program.proofs.Laws.Readable.{WellFormed}
use Rattle.program.proofs.Laws.Nesting.{one_parent, pick, parent_is, nested_more}
use Rattle.program.proofs.Laws.Trees.{root_lower}
use Rattle.erasure.specs.Kept.{kept_below}
use Rattle.erasure.specs.Lean.{is_erased, kept_term, inner, new_terms, new_term, lean_sheet}
use Rattle.erasure.proofs.Laws.Kept.{old_of}
use Rattle.erasure.proofs.Laws.Bytes.{terms_are}
use Rattle.erasure.proofs.Laws.Terms.{idle_named, idle_kept, inner_of, term_kept, term_idle, term_in, root_kept, new_root}
use Rattle.erasure.proofs.Laws.Places.{stands_child, new_times_in, new_times}

-- the parent that is found has x as a child
record ParentFound (s : List ℕ) (x n p : ℕ) : Type 0 where
  below : p < n
  has_child : 0 < times_in s x p

parent_has : (s : List ℕ) (x n : ℕ) → 0 < times_below s x n → ParentFound s x n (parent s x n)
parent_has s x zero h = absurd (omega arith)
parent_has s x (suc n) h = go (eqb (times_in s x n) 0) refl (parent_has s x n)
  where
    go : (b : Bool) → eqb (times_in s x n) 0 ≡ b → (0 < times_below s x n → ParentFound s x n (parent s x n))
        → ParentFound s x (suc n) (pick b (parent s x n) n)
    go true e rest =
        let z : times_in s x n ≡ 0 = eqb-true (times_in s x n) 0 e in
        let r = rest (omega arith) in
        record { below = omega (arith, r.below); has_child = r.has_child }
    go false e rest = let z : (times_in s x n ≡ 0 → ⊥) = eqb-false (times_in s x n) 0 e in record { below = omega arith; has_child = omega (arith, z) }

module _ (s : List ℕ) (w : WellFormed s) where
  -- a check or enable has one child
  idle_only : (x t : ℕ) → is_erased s t ≡ true → 0 < times_in s x t → first s t ≡ x
  idle_only x t e h = go (ℕ_discrete (first s t) x)
    where
      none : (K : Kind) → kind_of (kind_byte s t) ≡ K → is_child (format K).second ≡ false → is_child (format K).third ≡ false → (first s t ≡ x → ⊥)
          → times_in s x t ≡ 0
      none K q b c n =
          (λ i. cond (is_child (format_at s t).first && ne_eqb (first s t) x n i) 1 0
          + cond (ap (λ (k : Kind). is_child (format k).second) q i && eqb (second s t) x) 1 0
          + cond (ap (λ (k : Kind). is_child (format k).third) q i && eqb (third s t) x) 1 0)
          ∙ (λ i. cond (is_child (format_at s t).first && false) 1 0 + cond (b i && eqb (second s t) x) 1 0 + cond (c i && eqb (third s t) x) 1 0)
          ∙ last (is_child (format_at s t).first)
        where
          last : (b : Bool) → cond (b && false) 1 0 + 0 + 0 ≡ 0
          last true = refl
          last false = refl

      go : Dec (first s t ≡ x) → first s t ≡ x
      go (yes q) = q
      go (no q) = absurd (⊎_elim (λ r. omega (arith, none Check r refl refl q)) (λ r. omega (arith, none Enable r refl refl q)) (idle_named s t e))

  -- a term below a kept one is, with its new number, below that one's new number
  nested_kept : (x p k : ℕ) → x < terms s → p < terms s → kept_term s p ≡ true → 0 < times_in s x p → nested_in (lean_sheet s) k (new_term s p) ≡ true
      → nested_in (lean_sheet s) (suc k) (new_term s x) ≡ true
  unfolding new_term
  nested_kept x p k l m g h deep = go (ℕ_discrete (new_term s x) (root (lean_sheet s)))
    where
      go : Dec (new_term s x ≡ root (lean_sheet s)) → nested_in (lean_sheet s) (suc k) (new_term s x) ≡ true
      go (yes q) = ap (λ (b : Bool). or_else b (λ _. nested_in (lean_sheet s) k (parent (lean_sheet s) (new_term s x) (terms (lean_sheet s)))))
          (eq-eqb (new_term s x) (root (lean_sheet s)) q)
      go (no q) =
          let r = inner_of s w x l in
          let y : ℕ = inner s x in
          let not_root : (y ≡ root s → ⊥) = λ e. q (ap (kept_below (kept_term s)) e ∙ sym (term_kept s w (root s) (root_kept s w)) ∙ new_root s w) in
          let once : times_below (lean_sheet s) (new_term s x) (terms (lean_sheet s)) ≡ 1 =
          new_times s w y r.kept (omega (arith, r.low)) ∙ ap (λ (b : Bool). cond b 0 1) (ne_eqb y (root s) not_root) in
          let child_of : 0 < times_in (lean_sheet s) (new_term s x) (new_term s p) = omega (
            arith,
            ap (times_in (lean_sheet s) (new_term s x)) (term_kept s w p g) ∙ new_times_in s w y p r.kept g m,
            stands_child s x p h,
          ) in
          ap (λ (b : Bool). or_else b (λ _. nested_in (lean_sheet s) k (parent (lean_sheet s) (new_term s x) (terms (lean_sheet s)))))
          (ne_eqb (new_term s x) (root (lean_sheet s)) q)
          ∙ ap (nested_in (lean_sheet s) k) (parent_is (lean_sheet s) (new_term s x) (terms (lean_sheet s)) (new_term s p) once
          (omega (arith, term_in s w p m, terms_are s w)) child_of) ∙ deep

  nested_lean : (k x : ℕ) → x < terms s → nested_in s k x ≡ true → nested_in (lean_sheet s) k (new_term s x) ≡ true
  nested_lean zero x l h = absurd (false≢true h)
  nested_lean (suc k) x l h = go (ℕ_discrete x (root s)) (nested_lean k (parent s x (terms s)))
    where
      go : Dec (x ≡ root s) → (parent s x (terms s) < terms s → nested_in s k (parent s x (terms s)) ≡ true
          → nested_in (lean_sheet s) k (new_term s (parent s x (terms s))) ≡ true)
          → nested_in (lean_sheet s) (suc k) (new_term s x) ≡ true
      go (yes q) rest =
          ap (λ (b : Bool). or_else b (λ _. nested_in (lean_sheet s) k (parent (lean_sheet s) (new_term s x) (terms (lean_sheet s)))))
          (eq-eqb (new_term s x) (root (lean_sheet s)) (ap (new_term s) q ∙ new_root s w))
      go (no q) rest = by (is_erased s p) refl
        where
          p : ℕ
          p = parent s x (terms s)

          has : ParentFound s x (terms s) p
          has = parent_has s x (terms s) (omega (arith, one_parent s w x (omega (arith, q, root_lower s w))))

          deep : nested_in (lean_sheet s) k (new_term s p) ≡ true
          deep = rest has.below (ap (λ (b : Bool). or_else b (λ _. nested_in s k p)) (sym (ne_eqb x (root s) q)) ∙ h)

          by : (b : Bool) → is_erased s p ≡ b → nested_in (lean_sheet s) (suc k) (new_term s x) ≡ true
          by true e =
              let n : new_term s p ≡ new_term s x = term_idle s w p has.below e ∙ ap (new_term s) (idle_only x p e has.has_child) in
              nested_more (lean_sheet s) k (new_term s x) (subst (λ (y : ℕ). nested_in (lean_sheet s) k y ≡ true) n deep)
          by false e = nested_kept x p k l has.below (idle_kept s p e) has.has_child deep

  pub new_nested : (n : ℕ) → n < new_terms s → nested_in (lean_sheet s) max_nesting n ≡ true
  unfolding new_terms
  new_nested n h =
      let o = old_of (kept_term s) (terms s) n h in
      subst (λ (x : ℕ). nested_in (lean_sheet s) max_nesting x ≡ true) (term_kept s w o.old o.kept ∙ o.number)
      (nested_lean max_nesting o.old o.below (w.nested_ok o.old o.below))
