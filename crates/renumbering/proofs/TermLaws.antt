-- Checks and enables, the terms' new numbers, and sheets without tests. Assumes nothing.
use mathlib.Core.Bool.{Bool, true, false, not, ◌&&◌}
use mathlib.Core.List.{List}
use mathlib.Core.Path.{◌≡◌, refl, sym, ap, ◌∙◌}
use Prim.Native.Nat.{ℕ, zero, suc, ◌+◌, ◌<◌}
use native.Mathlib.Decide.{dec_lt}
use native.Mathlib.Omega.{arith}
use lib.Dec.{leb, eqb}
use lib.ListN.{get_or}
use borrow.Author.Tests.{eq-eqb, ne_eqb}
use Rattle.program.specs.Layout.{version, terms, kind_byte, term_at}
use Rattle.program.specs.Records.{term_at_byte, term_record}
use Rattle.program.proofs.Laws.Records.{term_laid}
use Rattle.program.specs.declared.records.Counts.{Counts}
use Rattle.program.specs.declared.records.TermRecord.{TermRecord}
use Rattle.accessors.specs.Internal.{FormedSheet}
use Rattle.erasure.specs.Kept.{kept_below}
use Rattle.erasure.specs.Lean.{is_erased, kept_term, new_term, untested, erasable}
use Rattle.erasure.proofs.Laws.Terms.{idle_kept, idle_gone, idle_child, term_kept, term_idle}
use Rattle.renumbering.specs.Internal.{Tabulated}

-- ---- a term whose record is read
module _ {s : List ℕ} {c : Counts} (S : FormedSheet s c) {t : ℕ} (l : t < terms s) {x : TermRecord} (e : x ≡ term_record s c t) where
  pub term_read : x ≡ term_at_byte s (term_at s t)
  term_read = e ∙ term_laid s S.well_formed.terms_inside c S.counts t l

  pub kind_read : x.kind ≡ kind_byte s t
  kind_read = ap (λ (r : TermRecord). r.kind) term_read

  module _ {b : Bool} (f : b ≡ (leb 7 x.kind && leb x.kind 8)) where
    idle_is : b ≡ is_erased s t
    idle_is = f ∙ ap (λ (r : TermRecord). leb 7 r.kind && leb r.kind 8) term_read

    pub kept_here : b ≡ false → kept_term s t ≡ true
    kept_here h = idle_kept s t (sym idle_is ∙ h)

    pub gone_here : b ≡ true → kept_term s t ≡ false
    gone_here h = idle_gone s t (sym idle_is ∙ h)

    -- a check or an enable has its inner term's number
    pub inner_below : b ≡ true → x.first < t
    inner_below h = rw term_read (idle_child s S.well_formed t l (sym idle_is ∙ h))

    pub inner_number : b ≡ true → {m : List ℕ} → Tabulated (new_term s) m t → get_or m x.first 0 ≡ new_term s t
    inner_number h T =
        T.each x.first (inner_below h) ∙ ap (λ (r : TermRecord). new_term s r.first) term_read
        ∙ sym (term_idle s S.well_formed t l (sym idle_is ∙ h))

    pub own_number : b ≡ false → {count : ℕ} → count ≡ kept_below (kept_term s) t → count ≡ new_term s t
    own_number h k = k ∙ sym (term_kept s S.well_formed t (kept_here h))

-- ---- tests
module _ (s : List ℕ) where
  pub untested_none : untested s 0 ≡ true
  unfolding untested
  untested_none = refl

  more : (t : ℕ) → (kind_byte s t ≡ 10 → ⊥) → untested s t ≡ true → untested s (suc t) ≡ true
  unfolding untested
  more t h e = λ i. not (ne_eqb (kind_byte s t) 10 h i) && e i

  pub untested_more : (t : ℕ) → (kind_byte s t ≡ 10 → ⊥) → untested s t ≡ true → untested s (t + 1) ≡ true
  untested_more t h e = let next : t + 1 ≡ suc t = omega arith in ap (untested s) next ∙ more t h e

  pub tested : (t n : ℕ) → kind_byte s t ≡ 10 → t < n → untested s n ≡ false
  unfolding untested
  tested t zero e h = absurd (omega arith)
  tested t (suc n) e h = go (dec_lt t n) (tested t n e)
    where
      both_false : (b : Bool) → (b && false) ≡ false
      both_false true = refl
      both_false false = refl

      go : Dec (t < n) → (t < n → untested s n ≡ false) → (not (eqb (kind_byte s n) 10) && untested s n) ≡ false
      go (yes k) rest = ap (λ (b : Bool). not (eqb (kind_byte s n) 10) && b) (rest k) ∙ both_false (not (eqb (kind_byte s n) 10))
      go (no k) rest =
          let q : n ≡ t = omega arith in
          ap (λ (b : Bool). not b && untested s n) (eq-eqb (kind_byte s n) 10 (ap (kind_byte s) q ∙ e))

  pub erasable_is : {v : ℕ} {b : Bool} → v ≡ version s → b ≡ untested s (terms s) → (eqb v 1 && b) ≡ erasable s
  unfolding erasable
  erasable_is e f = λ i. eqb (e i) 1 && f i
