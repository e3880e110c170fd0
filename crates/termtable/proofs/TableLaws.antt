-- The word of a record: its parts are read back, since each is below its width. The table, word by word. Assumes nothing.
use mathlib.Core.List.{List}
use mathlib.Core.Path.{◌≡◌, sym, ap, ◌∙◌, subst}
use Prim.Native.Nat.{ℕ, ◌+◌, ◌*◌, ◌<◌, ◌≤◌}
use native.Mathlib.Decide.{ℕ_discrete, dec_lt}
use native.Mathlib.Omega.{arith}
use lib.ListN.{get_or, length, set, length-set}
use lib.Seq.{get_or-set_same, get_or-set_other}
use Rattle.program.specs.Limits.{max_terms}
use Rattle.program.specs.Layout.{terms}
use Rattle.program.specs.Records.{CountsOf, no_term, term_record}
use Rattle.program.proofs.Laws.Readable.{WellFormed}
use Rattle.program.proofs.Laws.Records.{term_none}
use Rattle.program.specs.declared.records.Counts.{Counts}
use Rattle.program.specs.declared.records.TermRecord.{TermRecord}
use Rattle.termtable.specs.Table.{WordOf, TermWords}

module _ {s : List ℕ} {c : Counts} {t : ℕ} {x : TermRecord} (q : x ≡ term_record s c t) (kind : x.kind < 256) (small : x.small < 256)
    (first : x.first < 65536) where
  -- second and third have 16 bits each, from bit 32 and from bit 48 on
  pub plain_holds : (x.kind ≡ 9 → ⊥) → (x.kind ≡ 14 → ⊥) → x.second < 65536 → x.third < 65536
      → WordOf s c t (x.kind + 256 * x.small + 65536 * x.first + 4294967296 * x.second + 281474976710656 * x.third)
  plain_holds n m second third = let same = ap (λ (y : TermRecord). y.kind) q in record {
    kind_is = omega arith ∙ same;
    small_is = omega arith ∙ ap (λ (y : TermRecord). y.small) q;
    first_is = omega arith ∙ ap (λ (y : TermRecord). y.first) q;
    second_is = λ k. omega arith ∙ ap (λ (y : TermRecord). y.second) q;
    third_is = λ k. omega arith ∙ ap (λ (y : TermRecord). y.third) q;
    authority_is = λ e. absurd (n (same ∙ e));
    guard_is = λ e. absurd (m (same ∙ e));
  }

-- the first n words are there, and the others are zero
pub record Filled (s : List ℕ) (c : Counts) (words : List ℕ) (n : ℕ) : Type 0 where
  pub few : n ≤ c.terms
  pub long : length words ≡ max_terms
  pub done : (t : ℕ) → t < n → WordOf s c t (get_or words t 0)
  pub rest : (t : ℕ) → n ≤ t → get_or words t 0 ≡ 0

-- past the terms a record is all zeros, and so is its word
module _ {s : List ℕ} (w : WellFormed s) {c : Counts} (k : CountsOf s c) where
  zero_holds : (t : ℕ) → terms s ≤ t → WordOf s c t 0
  zero_holds t h =
      plain_holds {x = no_term} (sym (term_none s w.terms_inside c k t h)) (omega arith) (omega arith) (omega arith) (λ e. omega (arith, e))
      (λ e. omega (arith, e)) (omega arith) (omega arith)

  pub filled_more : {words : List ℕ} {n x : ℕ} → n < c.terms → WordOf s c n x → Filled s c words n → Filled s c (set words n x) (n + 1)
  filled_more {words} {n} {x} h g f = record {
    few = omega arith;
    long = length-set words n x ∙ f.long;
    done = λ t l. at t l (ℕ_discrete t n);
    rest = λ t l. get_or-set_other words n t x 0 (λ e. omega (arith, e)) ∙ f.rest t (omega arith);
  }
    where
      at : (t : ℕ) → t < n + 1 → Dec (t ≡ n) → WordOf s c t (get_or (set words n x) t 0)
      at t l (yes e) =
          subst (λ (u : ℕ). WordOf s c u (get_or (set words n x) u 0)) (sym e)
          (subst (WordOf s c n) (sym (get_or-set_same words n x 0 (omega (arith, f.long, k.terms_are, w.terms_most)))) g)
      at t l (no e) = subst (WordOf s c t) (sym (get_or-set_other words n t x 0 e)) (f.done t (omega (arith, e)))

  pub filled_whole : {words : List ℕ} {n : ℕ} → c.terms ≤ n → Filled s c words n → TermWords s c words
  filled_whole {words} {n} h f = record { long = f.long; holds = λ t. at t (dec_lt t n) }
    where
      at : (t : ℕ) → Dec (t < n) → WordOf s c t (get_or words t 0)
      at t (yes l) = f.done t l
      at t (no l) = subst (WordOf s c t) (sym (f.rest t (omega arith))) (zero_holds t (omega (arith, k.terms_are, h, f.few)))
