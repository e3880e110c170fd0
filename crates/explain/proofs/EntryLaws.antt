-- The answer from the verdict on the sheet: the refusals of the type checker, 30, and whether the privilege is needed. Assumes nothing.
use mathlib.Core.Bool.{Bool, true, false, cond}
use mathlib.Core.List.{List, [], map}
use mathlib.Core.Path.{◌≡◌, refl, sym, ap, ◌∙◌, subst}
use Prim.Native.Nat.{ℕ, ◌<◌, ◌≤◌}
use Rattle.std.specs.Prelude.{Result, Ok, Err}
use native.Mathlib.Omega.{arith}
use lib.Dec.{ltb, leb}
use lib.ListN.{length, replicate}
use borrow.Author.Tests.{lt-leb, le-leb}
use Rattle.std.specs.Prelude.{None, Ok, Err}
use Rattle.privileges.specs.Sets.{has}
use Rattle.program.specs.Limits.{max_nesting, max_privilege}
use Rattle.program.specs.Layout.{terms, root, authority, types_of}
use Rattle.program.specs.Screening.{Screening, clear, found, unless_found}
use Rattle.program.specs.Decoding.{decoding}
use Rattle.program.specs.declared.records.Counts.{Counts}
use Rattle.typing.specs.Checking.{Judgement, typed, fault}
use Rattle.typing.specs.Verdicts.{Verdict, accepted, rejected, concluded, judgement, verdict}
use Rattle.typing.specs.Answers.{rejection_cause, rejection_place, verdict_model}
use Rattle.typing.specs.declared.answer.Accepted.{Accepted}
use Rattle.typing.specs.declared.answer.Rejection.{Rejection}
use Rattle.accessors.specs.Internal.{FormedSheet}
use Rattle.typing.specs.Places.{placed_number, root_of}
use Rattle.chains.specs.Explaining.{needing, needs, chain_of, Explained as ExplainedOf, explained, not_needed, refused, explained_in, explained_by, explanation}
use Rattle.chains.specs.Answers.{Explanation, explanation_model, chain_terms, chain_length, ExplainedAs}
use Rattle.following.specs.Internal.{RootNeeds, Followable, without_chain}
use Rattle.chains.specs.declared.answer.ExplanationRefusal.TheVariants.{Rejected, NoPrivilege}
use Rattle.chains.specs.declared.answer.Explained.{Explained}

-- ---- an answer with no chain
unchained_as : {r : Explained} (a : Explanation) (e : ExplainedOf) → r ≡ without_chain a
    → explanation_model a (replicate max_nesting 0) ≡ e → chain_terms e ≡ []
    → chain_length a ≡ 0 → ExplainedAs r e
unchained_as a e q h k l = rw q (record { answer_is = h; length_is = l ∙ sym (ap length k); terms_are = rw k })

-- ---- the verdict on the sheet
by_verdict : (s : List ℕ) (p : ℕ) {r : Explained} (v : Verdict) → v ≡ verdict s → ExplainedAs r (explained_by s p v) → ExplainedAs r (explanation s p)
unfolding explanation
by_verdict s p {r} v e w = subst (λ (v : Verdict). ExplainedAs r (explained_by s p v)) e w

module _ (s : List ℕ) (p : ℕ) {r : Explained} where
  pub rejected_explained : (f : Rejection) → r ≡ without_chain (Err (Rejected f)) → rejected (rejection_cause f) (rejection_place f) ≡ verdict s
      → ExplainedAs r (explanation s p)
  rejected_explained f q e = by_verdict s p (rejected (rejection_cause f) (rejection_place f)) e (unchained_as (Err (Rejected f)) _ q refl refl refl)

  module _ {v : Result Accepted Rejection} (w : verdict_model v ≡ verdict s) where
    pub refused_explained : {f : Rejection} → v ≡ Err f → r ≡ without_chain (Err (Rejected f)) → ExplainedAs r (explanation s p)
    refused_explained {f} e q = rejected_explained f q (ap verdict_model (sym e) ∙ w)

    pub accepted_explained : {x : Accepted} → v ≡ Ok x → ExplainedAs r (explained_in s p x.needs (leb p max_privilege))
        → ExplainedAs r (explanation s p)
    accepted_explained {x} e t = by_verdict s p (accepted x.terms x.ty x.needs) (ap verdict_model (sym e) ∙ w) t

-- the root's needs are those of the verdict
conclusion_needs : (p n root m τ N : ℕ) (j : Judgement) → accepted m τ N ≡ concluded n root j → needing p j ≡ has p N
conclusion_needs p n root m τ N (fault c at) e = let z : ◌≡◌ {A = ℕ} 0 1 = cc in absurd (omega arith)
conclusion_needs p n root m τ N (typed σ M) e = go (ltb σ 2) e
  where
    go : (b : Bool) → accepted m τ N ≡ cond b (accepted n σ M) (rejected 13 root) → has p M ≡ has p N
    go true e = let q : M ≡ N = cc in ap (has p) q
    go false e = let z : ◌≡◌ {A = ℕ} 0 1 = cc in absurd (omega arith)

verdict_needs : (s : List ℕ) (p n τ N : ℕ) → accepted n τ N ≡ verdict s → needs (types_of s) (authority s) p (root_of s) ≡ has p N
unfolding verdict needs
verdict_needs s p n τ N e = go (decoding s) e
  where
    go : (d : Screening) → accepted n τ N ≡ unless_found rejected d (λ _. concluded (terms s) (root s) (judgement s)) → needing p (judgement s) ≡ has p N
    go clear e = conclusion_needs p (terms s) (root s) n τ N (judgement s) e
    go (found c at) e = let z : ◌≡◌ {A = ℕ} 0 1 = cc in absurd (omega arith)

pub accepted_needs : {s : List ℕ} {c : Counts} → FormedSheet s c → {v : Result Accepted Rejection} {x : Accepted} → verdict_model v ≡ verdict s → v ≡ Ok x
    → RootNeeds s c x.needs
accepted_needs {s} S {x = x} w e = record { sheet = S; needs_are = λ p. verdict_needs s p x.terms x.ty x.needs (ap verdict_model (sym e) ∙ w) }

-- ---- an accepted sheet with its needs
module _ (s : List ℕ) (p N : ℕ) {r : Explained} where
  pub too_high : max_privilege < p → r ≡ without_chain (Err NoPrivilege) → ExplainedAs r (explained_in s p N (leb p max_privilege))
  too_high h q = rw (lt-leb p max_privilege h) (unchained_as (Err NoPrivilege) (refused 30 0) q refl refl refl)

  module _ (h : p ≤ max_privilege) {z : Bool} (e : z ≡ has p N) where
    pub needed_not : z ≡ false → r ≡ without_chain (Ok None) → ExplainedAs r (explained_in s p N (leb p max_privilege))
    needed_not f q = rw (le-leb p max_privilege h, sym e ∙ f) (unchained_as (Ok None) not_needed q refl refl refl)

    pub needed : z ≡ true → ExplainedAs r (explained (map placed_number (chain_of s p))) → ExplainedAs r (explained_in s p N (leb p max_privilege))
    needed f t = rw (le-leb p max_privilege h, sym e ∙ f) t

pub needs_followable : {s : List ℕ} {c : Counts} {N : ℕ} → RootNeeds s c N → {p : ℕ} → p ≤ max_privilege → {z : Bool} → z ≡ has p N
    → z ≡ true → Followable s c p
needs_followable w {p} h e f = record { sheet = w.sheet; privilege = omega arith; needing = w.needs_are p ∙ sym e ∙ f }
