-- The terms of a lean sheet: each term of a readable sheet is replaced by the first inner one that is neither check nor enable, and the new records are those
-- of 01's table.
use Rattle.std.specs.Prelude.{Bool, not, ◌&&◌, ◌||◌, List, ◌⊎◌, ◌≡◌, leb, ltb, eqb}
use Rattle.std.proofs.Math.Bool.{true, false, cond}
use Rattle.std.proofs.lemmas.Bool.{false≢true, not-true}
use Rattle.std.proofs.Common.{inl, inr, ⊎_elim, sym, ◌∙◌, arith, ltb-true, leb-true, eqb-true, eq-eqb, lt-ltb, le-leb}
use Rattle.std.proofs.Math.Path.{refl, ap, subst}
use Prim.Native.Nat.{ℕ, zero, suc, ◌+◌, ◌<◌, ◌≤◌}
use Rattle.std.proofs.Math.Decide.{dec_lt}
use Rattle.privileges.specs.Booleans.{and_left, and_right, and_both}
use Rattle.program.specs.Layout.{terms, channels, root, kind_byte, small, first, second, third}
use Rattle.program.specs.Limits.{max_channels}
use Rattle.program.specs.Formats.{Part, unused, flag, any_number, privilege, principal, channel, function_type, child, body_child, is_child, Kind, Boolean, Number, Variable, Function, Letrec, Call, If, Check, Enable, Sign, Test, Sum, Difference, Less, Post, kind_of, format}
use Rattle.program.specs.Decoding.{part_ok, format_at, term_ok, is_sign}
use Rattle.program.proofs.Laws.Readable.{WellFormed}
use Rattle.program.proofs.Laws.Trees.{parts, below, placed, root_lower}
use Rattle.erasure.specs.Kept.{kept_below}
use Rattle.erasure.specs.Lean.{is_erased, kept_term, inner_in, inner, new_terms, new_term, new_part, lean_sheet}
use Rattle.erasure.proofs.Laws.Kept.{kept_yes, kept_strict, kept_most, old_of}
use Rattle.erasure.proofs.Laws.Bytes.{same_version, same_principals, terms_are, term_kind, term_small, term_first, term_second, term_third}
use Rattle.erasure.proofs.Laws.Types.{fun_low, fun_in, new_function}

-- ---- checks and enables
pub idle_kind : (s : List ℕ) (t : ℕ) → is_erased s t ≡ true → (kind_byte s t ≡ 7) ⊎ (kind_byte s t ≡ 8)
idle_kind s t h =
    let a : 7 ≤ kind_byte s t = leb-true 7 (kind_byte s t) (and_left (leb 7 (kind_byte s t)) (leb (kind_byte s t) 8) h) in
    let b : kind_byte s t ≤ 8 = leb-true (kind_byte s t) 8 (and_right (leb 7 (kind_byte s t)) (leb (kind_byte s t) 8) h) in
    elim (dec_lt (kind_byte s t) 8) [ yes l ↦ inl (omega arith) | no l ↦ inr (omega arith) ]

-- the same by the name of the kind
pub idle_named : (s : List ℕ) (t : ℕ) → is_erased s t ≡ true → (kind_of (kind_byte s t) ≡ Check) ⊎ (kind_of (kind_byte s t) ≡ Enable)
idle_named s t h = ⊎_elim (λ e. inl (ap kind_of e)) (λ e. inr (ap kind_of e)) (idle_kind s t h)

pub kept_idle : (s : List ℕ) (t : ℕ) → kept_term s t ≡ true → is_erased s t ≡ false
unfolding kept_term
kept_idle s t k = not-true (is_erased s t) k

pub idle_kept : (s : List ℕ) (t : ℕ) → is_erased s t ≡ false → kept_term s t ≡ true
unfolding kept_term
idle_kept s t e = ap not e

pub idle_gone : (s : List ℕ) (t : ℕ) → is_erased s t ≡ true → kept_term s t ≡ false
unfolding kept_term
idle_gone s t e = ap not e

-- a sign is kept
pub sign_kept : (s : List ℕ) (t : ℕ) → is_sign s t ≡ true → kept_term s t ≡ true
unfolding kept_term
sign_kept s t h = ap (λ (k : ℕ). not (leb 7 k && leb k 8)) (eqb-true (kind_byte s t) 9 h)

module _ (s : List ℕ) (w : WellFormed s) where
  pub idle_child : (t : ℕ) → t < terms s → is_erased s t ≡ true → first s t < t
  idle_child t l h =
      ⊎_elim (λ e. (below s w t l).first_below (ap (λ (K : Kind). is_child (format K).first) e))
      (λ e. (below s w t l).first_below (ap (λ (K : Kind). is_child (format K).first) e)) (idle_named s t h)

  -- ---- what stands in a term's place
  pub record Inner (t x : ℕ) : Type 0 where
    pub low : x ≤ t
    pub kept : kept_term s x ≡ true

  inner_in_lem : (k t : ℕ) → t < terms s → t ≤ k → Inner t (inner_in s k t)
  unfolding inner_in
  inner_in_lem zero t l h = record { low = omega arith; kept = go (is_erased s t) refl }
    where
      go : (b : Bool) → is_erased s t ≡ b → kept_term s t ≡ true
      go true e = absurd (omega (arith, idle_child t l e))
      go false e = idle_kept s t e
  inner_in_lem (suc k) t l h = go (is_erased s t) refl (inner_in_lem k (first s t))
    where
      go : (b : Bool) → is_erased s t ≡ b → (first s t < terms s → first s t ≤ k → Inner (first s t) (inner_in s k (first s t)))
          → Inner t (cond b (inner_in s k (first s t)) t)
      go true e rest =
          let c = idle_child t l e in
          let r = rest (omega arith) (omega arith) in
          record { low = omega (arith, r.low); kept = r.kept }
      go false e rest = record { low = omega arith; kept = idle_kept s t e }

  -- the same with more steps than it takes
  inner_steps : (j k t : ℕ) → t < terms s → t ≤ j → t ≤ k → inner_in s j t ≡ inner_in s k t
  unfolding inner_in
  inner_steps zero zero t l h g = refl
  inner_steps zero (suc k) t l h g = go (is_erased s t) refl
    where
      go : (b : Bool) → is_erased s t ≡ b → t ≡ cond b (inner_in s k (first s t)) t
      go true e = absurd (omega (arith, idle_child t l e))
      go false e = refl
  inner_steps (suc j) zero t l h g = go (is_erased s t) refl
    where
      go : (b : Bool) → is_erased s t ≡ b → cond b (inner_in s j (first s t)) t ≡ t
      go true e = absurd (omega (arith, idle_child t l e))
      go false e = refl
  inner_steps (suc j) (suc k) t l h g = go (is_erased s t) refl (inner_steps j k (first s t))
    where
      go : (b : Bool) → is_erased s t ≡ b → (first s t < terms s → first s t ≤ j → first s t ≤ k → inner_in s j (first s t) ≡ inner_in s k (first s t))
          → cond b (inner_in s j (first s t)) t ≡ cond b (inner_in s k (first s t)) t
      go true e rest = let c = idle_child t l e in rest (omega arith) (omega arith) (omega arith)
      go false e rest = refl

  pub inner_of : (t : ℕ) → t < terms s → Inner t (inner s t)
  unfolding inner
  inner_of t l = inner_in_lem t t l (omega arith)

  pub inner_kept : (t : ℕ) → kept_term s t ≡ true → inner s t ≡ t
  unfolding inner inner_in
  inner_kept t k = go t
    where
      go : (j : ℕ) → inner_in s j t ≡ t
      go zero = refl
      go (suc j) = ap (λ (b : Bool). cond b (inner_in s j (first s t)) t) (kept_idle s t k)

  pub inner_idle : (t : ℕ) → t < terms s → is_erased s t ≡ true → inner s t ≡ inner s (first s t)
  unfolding inner inner_in
  inner_idle t l e = go t (omega arith)
    where
      go : (j : ℕ) → t ≤ j → inner_in s j t ≡ inner_in s (first s t) (first s t)
      go zero h = absurd (omega (arith, idle_child t l e))
      go (suc j) h =
          let c = idle_child t l e in
          ap (λ (b : Bool). cond b (inner_in s j (first s t)) t) e ∙ inner_steps j (first s t) (first s t) (omega arith) (omega arith) (omega arith)

  -- ---- the new numbers
  pub term_kept : (t : ℕ) → kept_term s t ≡ true → new_term s t ≡ kept_below (kept_term s) t
  unfolding new_term
  term_kept t k = ap (kept_below (kept_term s)) (inner_kept t k)

  pub term_idle : (t : ℕ) → t < terms s → is_erased s t ≡ true → new_term s t ≡ new_term s (first s t)
  unfolding new_term
  term_idle t l e = ap (kept_below (kept_term s)) (inner_idle t l e)

  pub term_in : (t : ℕ) → t < terms s → new_term s t < new_terms s
  unfolding new_term new_terms
  term_in t l = let r = inner_of t l in kept_strict (kept_term s) (inner s t) (terms s) r.kept (omega (arith, r.low))

  pub term_below : (u t : ℕ) → u < t → t < terms s → new_term s u < kept_below (kept_term s) t
  unfolding new_term
  term_below u t h l = let r = inner_of u (omega arith) in kept_strict (kept_term s) (inner s u) t r.kept (omega (arith, r.low))

  -- ---- the root is still last
  pub root_sign : is_sign s (root s) ≡ true
  root_sign = go (eqb (root s) (root s)) (eq-eqb (root s) (root s) refl) (placed s w (root s) (root_lower s w)).root_signed
    where
      go : (b : Bool) → b ≡ true → (not b || is_sign s (root s)) ≡ true → is_sign s (root s) ≡ true
      go true e h = h
      go false e h = absurd (false≢true e)

  pub root_kept : kept_term s (root s) ≡ true
  root_kept = sign_kept s (root s) root_sign

  pub new_terms_are : new_terms s ≡ new_term s (root s) + 1
  unfolding new_terms
  new_terms_are =
      let e : terms s ≡ suc (root s) = omega (arith, w.terms_least) in
      ap (kept_below (kept_term s)) e ∙ kept_yes (kept_term s) (root s) root_kept ∙ ap (λ (x : ℕ). x + 1) (sym (term_kept (root s) root_kept))

  pub new_root : new_term s (root s) ≡ root (lean_sheet s)
  new_root = omega (arith, new_terms_are, terms_are s w)

  pub new_terms_most : new_terms s ≤ terms s
  unfolding new_terms
  new_terms_most = kept_most (kept_term s) (terms s)

  -- ---- 6: the new records are terms
  pub same_format : (t : ℕ) → kept_term s t ≡ true → t < terms s → format_at (lean_sheet s) (kept_below (kept_term s) t) ≡ format_at s t
  same_format t k l = ap (λ (x : ℕ). format (kind_of x)) (term_kind s w t k l)

  same_channels : channels (lean_sheet s) ≡ channels s
  same_channels = ap (λ (v : ℕ). cond (eqb v 2) max_channels 1) (same_version s w)

  part_ok_lem : (t : ℕ) → t < terms s → (p : Part) (x : ℕ) → part_ok s t p x ≡ true
      → part_ok (lean_sheet s) (kept_below (kept_term s) t) p (new_part s p x) ≡ true
  part_ok_lem t l unused x h = h
  part_ok_lem t l flag x h = h
  part_ok_lem t l any_number x h = h
  part_ok_lem t l privilege x h = h
  part_ok_lem t l principal x h = ap (ltb x) (same_principals s w) ∙ h
  part_ok_lem t l channel x h = ap (ltb x) same_channels ∙ h
  part_ok_lem t l function_type x h = new_function s w x (fun_low s w x h) (fun_in s w x h)
  part_ok_lem t l child x h = lt-ltb (new_term s x) (kept_below (kept_term s) t) (term_below x t (ltb-true x t h) l)
  part_ok_lem t l body_child x h = lt-ltb (new_term s x) (kept_below (kept_term s) t) (term_below x t (ltb-true x t h) l)

  -- the small part is none of those that are renumbered
  small_part : (K : Kind) (x : ℕ) → new_part s (format K).small x ≡ x
  small_part Boolean x = refl
  small_part Number x = refl
  small_part Variable x = refl
  small_part Function x = refl
  small_part Letrec x = refl
  small_part Call x = refl
  small_part If x = refl
  small_part Check x = refl
  small_part Enable x = refl
  small_part Sign x = refl
  small_part Test x = refl
  small_part Sum x = refl
  small_part Difference x = refl
  small_part Less x = refl
  small_part Post x = refl

  kept_term_ok : (t : ℕ) → kept_term s t ≡ true → t < terms s → term_ok (lean_sheet s) (kept_below (kept_term s) t) ≡ true
  kept_term_ok t k l =
      let p = parts s w t l in
      let n : ℕ = kept_below (kept_term s) t in
      (λ i. leb (term_kind s w t k l i) 14
      && part_ok (lean_sheet s) n (same_format t k l i).small ((term_small s w t k l ∙ sym (small_part (kind_of (kind_byte s t)) (small s t))) i)
      && part_ok (lean_sheet s) n (same_format t k l i).first (term_first s w t k l i)
      && part_ok (lean_sheet s) n (same_format t k l i).second (term_second s w t k l i)
      && part_ok (lean_sheet s) n (same_format t k l i).third (term_third s w t k l i))
      ∙ and_both (and_both (and_both (and_both (le-leb (kind_byte s t) 14 p.kind_ok) (part_ok_lem t l (format_at s t).small (small s t) p.small_ok))
      (part_ok_lem t l (format_at s t).first (first s t) p.first_ok)) (part_ok_lem t l (format_at s t).second (second s t) p.second_ok))
      (part_ok_lem t l (format_at s t).third (third s t) p.third_ok)

  pub new_term_ok : (n : ℕ) → n < new_terms s → term_ok (lean_sheet s) n ≡ true
  unfolding new_terms
  new_term_ok n h =
      let o = old_of (kept_term s) (terms s) n h in
      subst (λ (x : ℕ). term_ok (lean_sheet s) x ≡ true) o.number (kept_term_ok o.old o.kept o.below)
