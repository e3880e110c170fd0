-- The theorems about the judgement of one term: every term of a readable sheet is judged where it stands, and a number past the last is no term; the type and
-- needs told are those of the rules; the root's judgement is the type checker's, up to 13; and in an accepted sheet every term has a type.
use Rattle.std.proofs.Math.Bool.{true}
use Rattle.std.proofs.Common.{true≢false, ⊎_elim, sym, ◌∙◌, subst, arith}
use Rattle.std.specs.Prelude.{cond, ◌↔◌, ◌≡◌, ℕ, ◌<◌, ◌≤◌, ltb}
use mathlib.Core.List.{List, []}
use Rattle.std.proofs.Math.Path.{refl, ap}
use Rattle.std.proofs.Math.Decide.{dec_lt}
use Rattle.privileges.specs.Sets.{◌⊆◌}
use Rattle.program.specs.Layout.{terms, root, authority, types_of}
use Rattle.program.specs.Terms.{tree, program}
use Rattle.program.specs.Screening.{Screening, clear, found, unless_found}
use Rattle.program.specs.Decoding.{decoding, Readable}
use Rattle.program.proofs.Laws.Readable.{well_formed}
use Rattle.program.proofs.Laws.Types.{lower_types}
use Rattle.program.proofs.Laws.Trees.{program_standard}
use Rattle.typing.specs.Places.{placed}
use Rattle.typing.specs.Rules.{current, Derives}
use Rattle.typing.specs.Checking.{Judgement, typed, fault}
use Rattle.typing.specs.Faults.{here}
use Rattle.typing.specs.Verdicts.{Verdict, accepted, rejected, concluded, term_judgement, judgement, verdict}
use Rattle.typing.proofs.Theorems.{acceptance}
use Rattle.typing.proofs.Laws.Checking.{infer_derives, derives_least}
use Rattle.typing.proofs.Laws.Faults.{decoding_readers}
use Rattle.subterms.specs.Smallest.{subterms}
use Rattle.subterms.specs.Judging.{with_number, JudgedTerm, typed_under, refused, judged_as, judged_of, judging}
use Rattle.subterms.specs.Claims.{by_rules, HasFault, has_fault, Stands}
use Rattle.subterms.proofs.Laws.Judgements.{ruled, within_fault}
use Rattle.subterms.proofs.Laws.Numbers.{number_stands, number_past, within_standard}
use Rattle.subterms.proofs.Laws.Standing.{place}

-- the verdict from what is told of the root: "13 type of the root" comes last
abbrev pub concluded_from : (terms root : ℕ) → JudgedTerm → Verdict
concluded_from n r (typed_under p τ N) = cond (ltb τ 2) (accepted n τ N) (rejected 13 r)
concluded_from n r (refused cause place) = rejected cause place

typed≢refused : {n τ N cause place : ℕ} {A : Type 0} → typed_under n τ N ≡ refused cause place → A
typed≢refused e = absurd (let z : ◌≡◌ {A = ℕ} 0 1 = cc in omega arith)

refused_cause : {c d p q : ℕ} → refused c p ≡ refused d q → c ≡ d
refused_cause e = cc

-- 37 is no number of the rules
no_rule : (cause : ℕ) → by_rules cause ≡ true → cause ≡ 37 → ⊥
no_rule cause h e = true≢false (sym h ∙ ap by_rules e)

module _ (s : List ℕ) (t : ℕ) where
  readable_judging : Readable s → judging s t ≡ judged_of (types_of s) (authority s) (with_number t (subterms (types_of s) [] 0 (program s)))
  unfolding judging
  readable_judging r = λ i. unless_found refused (r i) (λ _. judged_of (types_of s) (authority s) (with_number t (subterms (types_of s) [] 0 (program s))))

  -- "in the bindings and under the principal it has in the sheet": wherever term t stands in a readable sheet, it is judged there
  pub judged_there : Readable s → (Γ : List ℕ) (n : ℕ) → Stands s Γ n t → judging s t ≡ judged_as n (term_judgement s Γ n t)
  unfolding term_judgement
  judged_there r Γ n v = readable_judging r ∙ ap (judged_of (types_of s) (authority s)) (number_stands s (well_formed s r) Γ n t v)

  -- every number below the count of terms is that of a term which stands in the sheet, in one place (`every_term_stands`, `stands_once`) and is judged there
  pub every_term_judged : Readable s → t < terms s → (Γ : List ℕ) × (n : ℕ) × Stands s Γ n t × (judging s t ≡ judged_as n (term_judgement s Γ n t))
  every_term_judged r l =
      let p = place s (well_formed s r) t l in
      (p.bindings, p.principal, p.stands, judged_there r p.bindings p.principal p.stands)

  -- a term is refused by the rules' numbers, 9 to 12 or 24 to 26
  pub fault_by_rules : Readable s → t < terms s → {cause place : ℕ} → judging s t ≡ refused cause place → by_rules cause ≡ true
  unfolding term_judgement
  fault_by_rules r l {cause} {place} e =
      let p = every_term_judged r l in
      go p.0 p.1 (term_judgement s p.0 p.1 t) refl (sym p.3 ∙ e)
    where
      go : (Γ : List ℕ) (n : ℕ) (j : Judgement) → term_judgement s Γ n t ≡ j → judged_as n j ≡ refused cause place → by_rules cause ≡ true
      go Γ n (typed τ N) f h = typed≢refused h
      go Γ n (fault c at) f h = ap by_rules (sym (refused_cause h)) ∙ ruled (types_of s) (authority s) Γ n (tree s t) f

  -- an unreadable sheet gets the reader's refusal
  pub unreadable_judging : {cause place : ℕ} → decoding s ≡ found cause place → judging s t ≡ refused cause place
  unfolding judging
  unreadable_judging e = λ i. unless_found refused (e i) (λ _. judged_of (types_of s) (authority s) (with_number t (subterms (types_of s) [] 0 (program s))))

  -- 37 is told exactly for a number past the last term of a readable sheet
  pub no_term_exactly : (judging s t ≡ refused 37 0) ↔ (Readable s × terms s ≤ t)
  no_term_exactly = (
    λ e. screened (decoding s) refl e,
    λ h. readable_judging h.0 ∙ ap (judged_of (types_of s) (authority s)) (number_past s (well_formed s h.0) t h.1),
  )
    where
      past : Readable s → judging s t ≡ refused 37 0 → Dec (t < terms s) → terms s ≤ t
      past r e (yes l) = absurd (no_rule 37 (fault_by_rules r l e) refl)
      past r e (no l) = omega (arith, l)

      screened : (d : Screening) → decoding s ≡ d → judging s t ≡ refused 37 0 → Readable s × terms s ≤ t
      screened clear h e = (h, past h e (dec_lt t (terms s)))
      screened (found cause at) h e =
          let q = refused_cause (sym (unreadable_judging h) ∙ e) in
          ⊎_elim (λ l. absurd (omega (arith, l, q))) (λ z. absurd (omega (arith, z, q))) (decoding_readers s cause at h)

  -- the type told is that of every derivation of the term there, and the needs are the least that one gives
  pub record LeastThere (Γ : List ℕ) (n τ N : ℕ) : Type 0 where
    pub stands : Stands s Γ n t
    pub derivation : Derives current (types_of s) (authority s) Γ n (tree s t) τ N
    pub same_type : (σ M : ℕ) → Derives current (types_of s) (authority s) Γ n (tree s t) σ M → σ ≡ τ
    pub least : (σ M : ℕ) → Derives current (types_of s) (authority s) Γ n (tree s t) σ M → N ⊆ M

  pub least_judged : Readable s → t < terms s → {n τ N : ℕ} → judging s t ≡ typed_under n τ N → (Γ : List ℕ) × LeastThere Γ n τ N
  unfolding term_judgement
  least_judged r l {n} {τ} {N} e =
      let p = every_term_judged r l in
      (p.0, go p.0 p.1 p.2 (term_judgement s p.0 p.1 t) refl (sym p.3 ∙ e))
    where
      least_there : (Γ : List ℕ) → Stands s Γ n t → term_judgement s Γ n t ≡ typed τ N → LeastThere Γ n τ N
      least_there Γ v f =
          let w = well_formed s r in
          let T = types_of s in
          let A = authority s in
          record {
            stands = v;
            derivation = infer_derives T A (lower_types s w) (within_standard T v (program_standard s w)) f;
            same_type = λ σ M d. (derives_least T A (lower_types s w) f d).0;
            least = λ σ M d. (derives_least T A (lower_types s w) f d).1;
          }

      go : (Γ : List ℕ) (m : ℕ) → Stands s Γ m t → (j : Judgement) → term_judgement s Γ m t ≡ j → judged_as m j ≡ typed_under n τ N → LeastThere Γ n τ N
      go Γ m v (fault cause at) f h = typed≢refused (sym h)
      go Γ m v (typed σ M) f h =
          let a : m ≡ n = cc in
          let b : σ ≡ τ = cc in
          let c : M ≡ N = cc in
          least_there Γ (subst (λ (k : ℕ). Stands s Γ k t) a v)
          (ap (λ (k : ℕ). term_judgement s Γ k t) (sym a) ∙ f ∙ λ i. typed (b i) (c i))

-- what is told of the root is the type checker's judgement, and the verdict follows from it, on any bytes
pub verdict_from_root : (s : List ℕ) → verdict s ≡ concluded_from (terms s) (root s) (judging s (root s))
unfolding verdict term_judgement
verdict_from_root s = go (decoding s) refl
  where
    concluded_from_lem : (j : Judgement) → concluded (terms s) (root s) j ≡ concluded_from (terms s) (root s) (judged_as 0 j)
    concluded_from_lem (typed τ N) = refl
    concluded_from_lem (fault cause at) = refl

    go : (d : Screening) → decoding s ≡ d
        → unless_found rejected d (λ _. concluded (terms s) (root s) (judgement s)) ≡ concluded_from (terms s) (root s) (judging s (root s))
    go clear e = concluded_from_lem (judgement s) ∙ ap (concluded_from (terms s) (root s)) (sym (judged_there s (root s) e [] 0 here))
    go (found cause place) e = ap (concluded_from (terms s) (root s)) (sym (unreadable_judging s (root s) e))

-- where the type checker accepts the sheet each term has a type where it stands
pub accepted_typed : (s : List ℕ) {k σ M : ℕ} → verdict s ≡ accepted k σ M → (t : ℕ) → t < terms s
    → (n : ℕ) × (τ : ℕ) × (N : ℕ) × (judging s t ≡ typed_under n τ N)
unfolding verdict term_judgement
accepted_typed s {k} {σ} {M} e t l =
    let p = every_term_judged s t r l in
    go p.0 p.1 p.2 (term_judgement s p.0 p.1 t) refl p.3
  where
    r : Readable s
    r = (acceptance s k σ M e).readable

    refuted : HasFault (types_of s) (authority s) (placed [] 0 (program s)) → ⊥
    refuted (has_fault {cause} {at} f) =
        let z : rejected cause at ≡ accepted k σ M = sym (λ i. unless_found rejected (r i) (λ _. concluded (terms s) (root s) (f i))) ∙ e in
        let y : ◌≡◌ {A = ℕ} 0 1 = cc in
        omega arith

    go : (Γ : List ℕ) (n : ℕ) → Stands s Γ n t → (j : Judgement) → term_judgement s Γ n t ≡ j → judging s t ≡ judged_as n (term_judgement s Γ n t)
        → (n : ℕ) × (τ : ℕ) × (N : ℕ) × (judging s t ≡ typed_under n τ N)
    go Γ n v (typed τ N) f h = (n, τ, N, h ∙ ap (judged_as n) f)
    go Γ n v (fault cause at) f h = absurd (refuted (within_fault (types_of s) (authority s) v (has_fault f)))
