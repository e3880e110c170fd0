-- The verdict on a sheet from the reader's answer and the root's judgement. Assumes nothing.
use mathlib.Core.List.{List}
use mathlib.Core.Path.{◌≡◌, sym, ap, ◌∙◌, subst}
use Prim.Native.Nat.{ℕ, ◌-◌, ◌≤◌}
use native.Mathlib.Omega.{arith}
use Rattle.program.specs.Layout.{terms, root}
use Rattle.program.specs.Screening.{Screening, clear, unless_found}
use Rattle.program.specs.Decoding.{decoding}
use Rattle.program.specs.Answers.{decoding_cause, decoding_place, decoded_model, Counted}
use Rattle.program.specs.declared.answer.Refusal.{Refusal}
use Rattle.std.specs.Prelude.{Result, Ok, Err}
use Rattle.program.specs.declared.records.Counts.{Counts}
use Rattle.program.proofs.Laws.Readable.{well_formed}
use Rattle.typing.specs.Checking.{Judgement}
use Rattle.typing.specs.Verdicts.{term_judgement, Verdict, rejected, concluded, judgement, verdict}
use Rattle.accessors.specs.Internal.{FormedSheet, ReadableSheet}
use Rattle.rules.specs.Inference.{context, last_first, Ready}
use Rattle.rules.specs.Laws.Room.{root_room}
use Rattle.rules.specs.declared.bindings.Bindings.{Bindings}

-- ---- a readable sheet
pub sheet_of : {s : List ℕ} {c : Counts} → ReadableSheet s c → FormedSheet s c
sheet_of {s} R = record { well_formed = well_formed s R.readable; counts = R.counts }

module _ {s : List ℕ} {c : Counts} (S : FormedSheet s c) where
  pub some_terms : 1 ≤ c.terms
  some_terms = omega (arith, S.counts.terms_are, S.well_formed.terms_least)

  root_is : c.terms - 1 ≡ root s
  root_is = ap (λ (n : ℕ). n - 1) S.counts.terms_are

  pub root_ready : (b : Bindings) → b.len ≡ 0 → Ready s c (c.terms - 1) b 0
  root_ready b e = record {
    sheet = S;
    inside = omega (arith, S.counts.terms_are, some_terms);
    principal = omega (arith, S.well_formed.principals_least);
    fits = rw root_is (omega (arith, e, root_room s S.well_formed));
  }

  pub program_is : (b : Bindings) → b.len ≡ 0 → {j : Judgement} {r : Verdict} → j ≡ term_judgement s (context b) 0 (c.terms - 1)
      → r ≡ concluded c.terms (c.terms - 1) j → r ≡ concluded (terms s) (root s) (judgement s)
  unfolding term_judgement
  program_is b e p q =
      let at-root = p ∙ (λ i. term_judgement s (last_first b.types (e i)) 0 (root_is i)) in
      q ∙ (λ i. concluded (S.counts.terms_are i) (root_is i) (at-root i))

pub verdict_is : {s : List ℕ} {c : Counts} → ReadableSheet s c → {r : Verdict} → r ≡ concluded (terms s) (root s) (judgement s) → r ≡ verdict s
unfolding verdict
verdict_is {s} R q = q ∙ ap (λ (x : Screening). unless_found rejected x λ _. concluded (terms s) (root s) (judgement s)) (sym R.readable)

-- ---- the reader's answer
module _ (s : List ℕ) {d : Result Counts Refusal} (p : decoded_model d ≡ decoding s) where
  pub unreadable_is : {f : Refusal} → d ≡ Err f → rejected (decoding_cause f) (decoding_place f) ≡ verdict s
  unfolding verdict
  unreadable_is e = ap (λ (x : Screening). unless_found rejected x λ _. concluded (terms s) (root s) (judgement s)) (sym (ap decoded_model e) ∙ p)

  module _ {c : Counts} (e : d ≡ Ok c) where
    readable : decoding s ≡ clear
    readable = sym p ∙ ap decoded_model e

    pub readable_counted : Counted s d → ReadableSheet s c
    readable_counted k = record { readable = readable; counts = subst (Counted s) e k }

    pub readable_sheet : Counted s d → FormedSheet s c
    readable_sheet k = sheet_of (readable_counted k)
