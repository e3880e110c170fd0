-- What is told of a term from the reader's answer, from its place, and from its judgement there. Assumes nothing.
use mathlib.Core.List.{List}
use mathlib.Core.Option.{some}
use mathlib.Core.Path.{◌≡◌, sym, ap, ◌∙◌}
use Prim.Native.Nat.{ℕ}
use Rattle.std.specs.Prelude.{Result}
use Rattle.program.specs.Layout.{authority, types_of}
use Rattle.program.specs.Screening.{Screening, unless_found}
use Rattle.program.specs.Decoding.{decoding}
use Rattle.program.specs.Answers.{decoding_cause, decoding_place, decoded_model}
use Rattle.program.specs.declared.answer.Refusal.{Refusal}
use Rattle.std.specs.Prelude.{Result, Ok, Err}
use Rattle.program.specs.declared.records.Counts.{Counts}
use Rattle.typing.specs.Places.{Placed}
use Rattle.typing.specs.declared.answer.Fault.{Fault}
use Rattle.typing.specs.declared.answer.Typed.{Typed}
use Rattle.accessors.specs.Internal.{FormedSheet}
use Rattle.typing.specs.Verdicts.{term_judgement}
use Rattle.rules.specs.Inference.{inferred_model, context}
use Rattle.places.specs.Internal.{AtRoot, placed_at, Child, child_at, ReadyPlace}
use Rattle.places.proofs.PlaceLaws.{root_placed}
use Rattle.places.specs.declared.Place.{Place}
use Rattle.std.specs.Prelude.{Some}
use Rattle.subterms.specs.Judging.{with_number, JudgedTerm, refused, judged_as, judged_of, judging}
use Rattle.subterms.proofs.Laws.Subterms.{subterms_in}
use Rattle.judging.specs.Internal.{FoundAs, judged_at, judged_in}

-- ---- the reader's answer
module _ (s : List ℕ) (t : ℕ) {d : Result Counts Refusal} (p : decoded_model d ≡ decoding s) where
  pub unreadable_judged : {f : Refusal} → d ≡ Err f → refused (decoding_cause f) (decoding_place f) ≡ judging s t
  unfolding judging
  unreadable_judged e = ap (λ (x : Screening). unless_found refused x λ _. judged_in s t) (sym (ap decoded_model e) ∙ p)

  pub readable_judged : {c : Counts} → d ≡ Ok c → {r : JudgedTerm} → r ≡ judged_in s t → r ≡ judging s t
  unfolding judging
  readable_judged e q = q ∙ ap (λ (x : Screening). unless_found refused x λ _. judged_in s t) (sym (ap decoded_model e) ∙ p)

-- ---- a readable sheet, from what is found in the root
module _ {s : List ℕ} {c : Counts} (S : FormedSheet s c) {y : Place} (at-root : AtRoot c y) (t : ℕ) {r : Child}
    (f : FoundAs s c t (some (placed_at s y)) r) where
  judged_is : judged_of (types_of s) (authority s) (child_at s r) ≡ judged_in s t
  judged_is = ap (judged_of (types_of s) (authority s))
      (f.is ∙ ap (λ (x : Placed). with_number t (subterms_in (types_of s) (some x))) (root_placed S at-root))

  module _ {x : Place} (e : r ≡ Some x) where
    pub found_ready : ReadyPlace s c x
    found_ready = rw e at f.ready

    pub present_judged : {j : JudgedTerm} → j ≡ judged_at s x → j ≡ judged_in s t
    present_judged h = h ∙ ap (λ (r : Child). judged_of (types_of s) (authority s) (child_at s r)) (sym e) ∙ judged_is

-- ---- the term at a place, from its judgement
pub place_judged : (s : List ℕ) (at : Place) {j : Result Typed Fault} → inferred_model j ≡ term_judgement s (context at.bindings) at.principal at.term
    → {r : Result Typed Fault} → j ≡ r → judged_as at.principal (inferred_model r) ≡ judged_at s at
unfolding term_judgement
place_judged s at h e = ap (judged_as at.principal) (ap inferred_model (sym e) ∙ h)
