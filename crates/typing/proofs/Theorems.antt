-- The theorems about the rules: subtyping is an order that the test decides; a readable sheet is accepted exactly if it has a derivation; the
-- needs told are the least, and the type told is that of every derivation; what 01's own rules accept is accepted, with no more needs, and what the
-- rules before W4 accept, with the same type and needs; a sheet of version 1 is judged as if there were no guards, and a guarded post needs its privilege;
-- 24, 25, 26 and 10 are told of a term whose types are as they say, and of no other, and so with 9, 11 and 12; and 13 exactly if the root is a function.
use Rattle.std.specs.Prelude.{Bool, true, false, cond, List, [], ◌↔◌, ◌⊎◌, ◌≡◌, ℕ, ◌<◌, ◌≤◌, ltb, eqb}
use Rattle.std.proofs.Common.{inl, inr, ⊎_elim, sym, ap, ◌∙◌, subst, arith, ltb-true, ltb-false, lt-ltb, le-ltb}
use Rattle.std.proofs.Math.Option.{none, some}
use Rattle.std.proofs.Math.Path.{refl}
use Rattle.privileges.specs.Sets.{has, ◌⊆◌}
use Rattle.privileges.specs.Laws.{⊆_antisym, ⊆_trans, ⊆_insert}
use Rattle.program.specs.Bytes.{Bytes}
use Rattle.program.specs.Layout.{version, authority, terms, root, Types, types_of}
use Rattle.program.specs.Terms.{Term, post, program}
use Rattle.program.specs.Screening.{Screening, clear, found, unless_found}
use Rattle.program.specs.Decoding.{decoding, Readable}
use Rattle.program.proofs.Laws.Readable.{WellFormed, well_formed}
use Rattle.program.proofs.Laws.Types.{PartsLower, function_type, lower_types, distinct_types}
use Rattle.program.proofs.Laws.Trees.{program_standard}
use Rattle.program.proofs.Laws.Guards.{program_in_range, program_unguarded}
use Rattle.typing.specs.Subtyping.{Subtype, sub_same, Wider, wider_second, wider_first, subtype}
use Rattle.typing.specs.Rules.{Variant, base, after_w1, after_w4, current, Derives, d_post, d_widen}
use Rattle.typing.specs.Checking.{Judgement, typed, fault, ◌next◌, require, infer}
use Rattle.typing.specs.Faults.{Mismatch, OtherTypeFault, OtherFault, MismatchedSubterm, OtherTypeFaultySubterm, OtherFaultySubterm}
use Rattle.typing.specs.Verdicts.{accepted, rejected, concluded, judgement, verdict, SheetDerivesBy, SheetDerives}
use Rattle.typing.proofs.Laws.Subtyping.{sub_trans, sub_antisym, subtype_sound, subtype_complete, wider_above}
use Rattle.typing.proofs.Laws.Checking.{infer_complete, infer_after_w1, infer_derives, typed_least, derives_least}
use Rattle.typing.proofs.Laws.Variants.{guard_needed, relaxed, current_relaxes_base, current_relaxes_after_w4, after_w4_relaxes_current}
use Rattle.typing.proofs.Laws.Types.{neither_function}
use Rattle.typing.proofs.Laws.Faults.{infer_faulty, infer_ten, infer_beyond, infer_not_13, wrong_fault, ten_fault, beyond_fault, decoding_readers}

-- ---- Theorem 1: subtyping

pub record SubtypeOrder (s : List ℕ) : Type 0 where
  pub reflexive : (a : ℕ) → Subtype (types_of s) a a
  pub transitive : (a b c : ℕ) → Subtype (types_of s) a b → Subtype (types_of s) b c → Subtype (types_of s) a c
  pub antisymmetric : (a b : ℕ) → Subtype (types_of s) a b → Subtype (types_of s) b a → a ≡ b
  pub decided : (a b : ℕ) → (subtype (types_of s) a b ≡ true) ↔ Subtype (types_of s) a b

pub subtyping : (s : List ℕ) → Bytes s → Readable s → SubtypeOrder s
subtyping s bytes r =
    let w = well_formed s r in
    record {
      reflexive = λ a. sub_same;
      transitive = λ a b c p q. sub_trans (types_of s) p q;
      antisymmetric = λ a b p q. sub_antisym (types_of s) (distinct_types s bytes w) p q;
      decided = λ a b. (subtype_sound (types_of s) a b, subtype_complete (types_of s) (lower_types s w));
    }

-- "where one type fits the other, and have the wider type": of two types either can be the wider, whichever of them stands first
pub wider_either : (s : List ℕ) → Bytes s → Readable s → (a b c : ℕ)
    → Wider (types_of s) a b c ↔ ((Subtype (types_of s) a b × (c ≡ b)) ⊎ (Subtype (types_of s) b a × (c ≡ a)))
wider_either s bytes r a b c = (forth, back)
  where
    forth : {a b c : ℕ} → Wider (types_of s) a b c → (Subtype (types_of s) a b × (c ≡ b)) ⊎ (Subtype (types_of s) b a × (c ≡ a))
    forth (wider_second p) = inl (p, refl)
    forth (wider_first q p) = inr (p, refl)

    back : (Subtype (types_of s) a b × (c ≡ b)) ⊎ (Subtype (types_of s) b a × (c ≡ a)) → Wider (types_of s) a b c
    back (inl p) = subst (Wider (types_of s) a b) (sym p.1) (wider_second p.0)
    back (inr p) =
        let w = well_formed s r in
        subst (Wider (types_of s) a b) (sym p.1) (wider_above (types_of s) (distinct_types s bytes w) (lower_types s w) p.0)

-- ---- Theorem 2: acceptance

-- by the rules of a variant, a derivation with these, and none with another type or without some of these needs
pub record LeastNeedsBy (W : Variant) (s : List ℕ) (τ N : ℕ) : Type 0 where
  pub derivation : SheetDerivesBy W s τ N
  pub same_type : (σ M : ℕ) → SheetDerivesBy W s σ M → σ ≡ τ
  pub least : (σ M : ℕ) → SheetDerivesBy W s σ M → N ⊆ M

-- by the rules in force
abbrev pub LeastNeeds : List ℕ → (type needs : ℕ) → Type 0
LeastNeeds s τ N = LeastNeedsBy current s τ N

-- what an acceptance says
pub record Acceptance (s : List ℕ) (n τ N : ℕ) : Type 0 where
  pub readable : Readable s
  pub count : n ≡ terms s
  pub root_type : τ < 2
  pub needs : LeastNeeds s τ N

record InferredRoot (s : List ℕ) (n τ N : ℕ) : Type 0 where
  readable : Readable s
  count : n ≡ terms s
  root_type : τ < 2
  is : judgement s ≡ typed τ N

rejected≢accepted : {c p n τ N : ℕ} {A : Type 0} → rejected c p ≡ accepted n τ N → A
rejected≢accepted e = absurd (let z : ◌≡◌ {A = ℕ} 0 1 = cc in omega arith)

module _ (s : List ℕ) (n τ N : ℕ) where
  root_accepted : (σ M : ℕ) (b : Bool) → ltb σ 2 ≡ b → Readable s → judgement s ≡ typed σ M
      → cond b (accepted (terms s) σ M) (rejected 13 (root s)) ≡ accepted n τ N → InferredRoot s n τ N
  root_accepted σ M true h r j e =
      let p : σ ≡ τ = cc in
      let q : M ≡ N = cc in
      record { readable = r; count = (let c : n ≡ terms s = cc in c); root_type = subst (λ x. x < 2) p (ltb-true σ 2 h); is = j ∙ λ i. typed (p i) (q i) }
  root_accepted σ M false h r j e = rejected≢accepted e

  concluded_accepted : (j : Judgement) → judgement s ≡ j → Readable s → concluded (terms s) (root s) j ≡ accepted n τ N → InferredRoot s n τ N
  concluded_accepted (typed σ M) h r e = root_accepted σ M (ltb σ 2) refl r h e
  concluded_accepted (fault c at) h r e = rejected≢accepted e

  inferred : verdict s ≡ accepted n τ N → InferredRoot s n τ N
  unfolding verdict
  inferred e = go (decoding s) refl e
    where
      go : (d : Screening) → decoding s ≡ d → unless_found rejected d (λ _. concluded (terms s) (root s) (judgement s)) ≡ accepted n τ N → InferredRoot s n τ N
      go clear h f = concluded_accepted (judgement s) refl h f
      go (found c p) h f = rejected≢accepted f

least_needs : (W : Variant) (s : List ℕ) (τ N : ℕ) → SheetDerivesBy W s τ N → ((σ M : ℕ) → SheetDerivesBy W s σ M → (σ ≡ τ) × N ⊆ M)
    → LeastNeedsBy W s τ N
least_needs W s τ N d l = record { derivation = d; same_type = λ σ M d'. (l σ M d').0; least = λ σ M d'. (l σ M d').1 }

-- an accepted sheet is readable and derivable, with the least needs
pub acceptance : (s : List ℕ) (n τ N : ℕ) → verdict s ≡ accepted n τ N → Acceptance s n τ N
acceptance s n τ N e =
    let h = inferred s n τ N e in
    let w = well_formed s h.readable in
    let d = infer_derives (types_of s) (authority s) (lower_types s w) (program_standard s w) h.is in
    record {
      readable = h.readable;
      count = h.count;
      root_type = h.root_type;
      needs = least_needs current s τ N d λ σ M d'. derives_least (types_of s) (authority s) (lower_types s w) h.is d';
    }

abbrev pub Accepted : List ℕ → Type 0
Accepted s = (n : ℕ) × (τ : ℕ) × (N : ℕ) × (verdict s ≡ accepted n τ N)

-- "The root has type 0 or 1."
abbrev pub Derivable : List ℕ → Type 0
Derivable s = (τ : ℕ) × (N : ℕ) × (τ < 2) × SheetDerives s τ N

-- a sheet is accepted, of type τ and with needs inside N
pub record AcceptedInside (s : List ℕ) (τ N : ℕ) : Type 0 where
  pub needs : ℕ
  pub is : verdict s ≡ accepted (terms s) τ needs
  pub inside : needs ⊆ N

readable_verdict : (s : List ℕ) → Readable s → (j : Judgement) → judgement s ≡ j → verdict s ≡ concluded (terms s) (root s) j
unfolding verdict
readable_verdict s r j e = λ i. unless_found rejected (r i) (λ _. concluded (terms s) (root s) (e i))

typed_accepted : (s : List ℕ) → Readable s → (τ N : ℕ) → τ < 2 → judgement s ≡ typed τ N → verdict s ≡ accepted (terms s) τ N
typed_accepted s r τ N l e =
    readable_verdict s r (typed τ N) e ∙ λ i. cond (lt-ltb τ 2 l i) (accepted (terms s) τ N) (rejected 13 (root s))

derived_accepted : (s : List ℕ) → Readable s → (τ N : ℕ) → τ < 2 → SheetDerives s τ N → AcceptedInside s τ N
derived_accepted s r τ N l d =
    let x = infer_complete (types_of s) (authority s) (lower_types s (well_formed s r)) d in
    record { needs = x.least; is = typed_accepted s r τ x.least l x.is; inside = x.inside }

-- 01, "The two runs of demand 3": "A readable sheet is accepted exactly when the rules give a derivation."
pub accepted_exactly : (s : List ℕ) → Readable s → Accepted s ↔ Derivable s
accepted_exactly s r = (forth, back)
  where
    forth : Accepted s → Derivable s
    forth a = let h = acceptance s a.0 a.1 a.2 a.3 in (a.1, a.2, h.root_type, h.needs.derivation)

    back : Derivable s → Accepted s
    back d = let a = derived_accepted s r d.0 d.1 d.2 d.3 in (terms s, d.0, a.needs, a.is)

-- ---- what W1 made better
-- A readable sheet that 01's own rules accept, of type τ and with needs N, is accepted, of the same type and with needs inside N.
pub accepted_before : (s : List ℕ) → Readable s → (τ N : ℕ) → τ < 2 → SheetDerivesBy base s τ N → AcceptedInside s τ N
accepted_before s r τ N l d = derived_accepted s r τ N l (relaxed current_relaxes_base (program_in_range s (well_formed s r)) d)

-- ---- what W4 left as it was
-- "A sheet accepted before has the same type and needs." A readable sheet that the rules before W4 accept, of type τ and with least needs N, is
-- accepted with these.
pub same_as_before : (s : List ℕ) → Readable s → (τ N : ℕ) → τ < 2 → LeastNeedsBy after_w1 s τ N → verdict s ≡ accepted (terms s) τ N
same_as_before s r τ N l h =
    let x = infer_after_w1 (types_of s) (authority s) (lower_types s (well_formed s r)) h.derivation in
    let e : x.least ≡ N = ⊆_antisym x.least N x.inside (h.least τ x.least x.derives) in
    typed_accepted s r τ x.least l x.is ∙ ap (accepted (terms s) τ) e

-- and by those rules every sheet that has a derivation has least needs
pub least_before : (s : List ℕ) → Readable s → (τ N : ℕ) → SheetDerivesBy after_w1 s τ N → (M : ℕ) × LeastNeedsBy after_w1 s τ M
least_before s r τ N d =
    let L = lower_types s (well_formed s r) in
    let x = infer_after_w1 (types_of s) (authority s) L d in (
      x.least,
      least_needs after_w1 s τ x.least x.derives λ σ M d'.
          typed_least (types_of s) (authority s) x.is (infer_after_w1 (types_of s) (authority s) L d'),
    )

-- ---- what W8 left as it was
-- "Version 1 posts on channel 0 without a guard": a readable sheet of version 1 is accepted, of type τ and with needs N, exactly if the rules that look at
-- no guard give it that type and these least needs.
pub version_1_verdict : (s : List ℕ) → Readable s → version s ≡ 1 → (τ N : ℕ) → τ < 2
    → (verdict s ≡ accepted (terms s) τ N) ↔ LeastNeedsBy after_w4 s τ N
version_1_verdict s r one τ N l = (forth, back)
  where
    with : {σ M : ℕ} → SheetDerivesBy after_w4 s σ M → SheetDerives s σ M
    with d = relaxed current_relaxes_after_w4 (program_unguarded s (well_formed s r) one) d

    without : {σ M : ℕ} → SheetDerives s σ M → SheetDerivesBy after_w4 s σ M
    without d = relaxed after_w4_relaxes_current (program_unguarded s (well_formed s r) one) d

    forth : verdict s ≡ accepted (terms s) τ N → LeastNeedsBy after_w4 s τ N
    forth e =
        let h = (acceptance s (terms s) τ N e).needs in
        least_needs after_w4 s τ N (without h.derivation) λ σ M d. (h.same_type σ M (with d), h.least σ M (with d))

    back : LeastNeedsBy after_w4 s τ N → verdict s ≡ accepted (terms s) τ N
    back h =
        let a = derived_accepted s r τ N l (with h.derivation) in
        let d = (acceptance s (terms s) τ a.needs a.is).needs.derivation in
        a.is ∙ ap (accepted (terms s) τ) (⊆_antisym a.needs N a.inside (h.least τ a.needs (without d)))

-- A post without a guard is judged as in 01, refused or not: "Post: number to number."
pub plain_post : (T : Types) (A : ℕ → ℕ) (Γ : List ℕ) (n at ch : ℕ) (c : Term)
    → infer T A Γ n (post at ch none c) ≡ (infer T A Γ n c next λ τ N. require (eqb τ 1) 10 at (typed 1 N))
unfolding infer
plain_post T A Γ n at ch c = refl

-- ---- what W8 asks for
-- "A guarded post adds its privilege to the needs": it is in the needs of every derivation, with those of a derivation of the number
pub guarded_post : {T : Types} {A : ℕ → ℕ} {Γ : List ℕ} {n at ch p τ N : ℕ} {c : Term} → Derives current T A Γ n (post at ch (some p) c) τ N
    → (has p N ≡ true) × ((M : ℕ) × Derives current T A Γ n c 1 M × M ⊆ N)
guarded_post {p = p} (d_post {N = N} d) = (guard_needed p N, (N, d, ⊆_insert p N))
guarded_post {p = p} (d_widen d s) = let h = guarded_post d in (s.all p h.0, (h.1.0, h.1.1, ⊆_trans h.1.2 s))

-- ---- what W5's numbers say
-- A term that is a call of what isn't a function, a call with an argument that doesn't fit, or an if or test with branches of which neither fits the other
-- is told so: by 24, 25 or 26 in that order, at that term. It is 24 whatever the argument is: "at one call 24 goes before 25".
pub mismatch_inferred : (T : Types) (A : ℕ → ℕ) (Γ : List ℕ) (n cause at : ℕ) (c : Term) → Mismatch T A Γ n cause at c → infer T A Γ n c ≡ fault cause at
mismatch_inferred T A Γ n cause at c w = wrong_fault T A w

-- "all other type faults stay 10, and the place is still the term"; of an if whatever its branches are: "at one if 10 before 26"; of a function or letrec
-- whatever its body needs: "10 before 12" (01)
pub other_type_fault_inferred : (T : Types) (A : ℕ → ℕ) (Γ : List ℕ) (n at : ℕ) (c : Term) → OtherTypeFault T A Γ n at c → infer T A Γ n c ≡ fault 10 at
other_type_fault_inferred T A Γ n at c t = ten_fault T A t

-- a refusal that is neither the reader's nor the root's is the rules', of a readable sheet
record Ruled (s : List ℕ) (cause at : ℕ) : Type 0 where
  readable : Readable s
  is : judgement s ≡ fault cause at

rejected_by_rules : (s : List ℕ) (cause at : ℕ) → verdict s ≡ rejected cause at → 9 ≤ cause → (cause ≡ 13 → ⊥) → (cause ≡ 31 → ⊥) → Ruled s cause at
unfolding verdict
rejected_by_rules s cause at e l not-13 not-31 = screened (decoding s) refl e
  where
    rooted : (b : Bool) (τ N : ℕ) → cond b (accepted (terms s) τ N) (rejected 13 (root s)) ≡ rejected cause at → judgement s ≡ fault cause at
    rooted true τ N f = rejected≢accepted (sym f)
    rooted false τ N f = absurd (not-13 (let z : cause ≡ 13 = cc in z))

    judged : (j : Judgement) → judgement s ≡ j → concluded (terms s) (root s) j ≡ rejected cause at → judgement s ≡ fault cause at
    judged (typed τ N) h f = rooted (ltb τ 2) τ N f
    judged (fault c p) h f = h ∙ (let z : fault c p ≡ fault cause at = cc in z)

    screened : (d : Screening) → decoding s ≡ d → unless_found rejected d (λ _. concluded (terms s) (root s) (judgement s)) ≡ rejected cause at
        → Ruled s cause at
    screened clear h f = record { readable = h; is = judged (judgement s) refl f }
    screened (found c p) h f =
        let z : c ≡ cause = cc in
        ⊎_elim (λ k. absurd (omega arith)) (λ k. absurd (not-31 (sym z ∙ k))) (decoding_readers s c p h)

-- a term of the sheet, in the bindings and under the principal that it has there, is wrong as the number says, and its number is `at`
abbrev pub SheetMismatch : List ℕ → (cause at : ℕ) → Type 0
SheetMismatch s cause at = MismatchedSubterm (types_of s) (authority s) [] 0 (program s) cause at

-- A sheet is refused by 24, 25 or 26 at a term only if that term is a call of what isn't a function, a call with an argument that doesn't fit, or an if
-- or test with branches of which neither fits the other, in the bindings and under the principal that it has in the sheet, and its children have types
-- (Faults: Mismatch, Within). No other number from 24 on is told but the reader's 31.
pub type_faults : (s : List ℕ) (cause at : ℕ) → verdict s ≡ rejected cause at → 24 ≤ cause → (cause ≡ 31 → ⊥) → SheetMismatch s cause at
type_faults s cause at e l other =
    let h = rejected_by_rules s cause at e (omega arith) (λ h. omega arith) other in
    infer_faulty (types_of s) (authority s) (lower_types s (well_formed s h.readable)) [] 0 (program s) cause at h.is l

-- A sheet is refused by 10 at a term only if the body there has another type than the function's result, the condition is no boolean, an operand or what
-- is posted is no number, in the bindings and under the principal that the term has in the sheet, and its children have types (Faults: OtherTypeFault).
pub other_type_faults : (s : List ℕ) (at : ℕ) → verdict s ≡ rejected 10 at → OtherTypeFaultySubterm (types_of s) (authority s) [] 0 (program s) at
other_type_faults s at e =
    let h = rejected_by_rules s 10 at e (omega arith) (λ h. omega (arith, h)) (λ h. omega (arith, h)) in
    infer_ten (types_of s) (authority s) (lower_types s (well_formed s h.readable)) [] 0 (program s) 10 at h.is refl

-- ---- what 01's other numbers say
-- "9 variable past the bindings, … 11 needs of a sign, 12 needs of a body": a term that is so, and whose children have types, is told so, at that term
pub other_fault_inferred : (T : Types) (A : ℕ → ℕ) (Γ : List ℕ) (n cause at : ℕ) (c : Term) → OtherFault T A Γ n cause at c → infer T A Γ n c ≡ fault cause at
other_fault_inferred T A Γ n cause at c b = beyond_fault T A b

-- A sheet is refused by 9, 11 or 12 at a term only if that term is a variable past the bindings, a sign whose child needs what isn't in A of its principal,
-- or a function or recursive binder whose body needs what isn't in the latent set, in the bindings and under the principal that it has in the sheet, and
-- its children have types (Faults: OtherFault). No other number from 9 to 23 is told but 10 and 13.
pub other_faults : (s : List ℕ) (cause at : ℕ) → verdict s ≡ rejected cause at → 9 ≤ cause → cause < 24 → (cause ≡ 10 → ⊥) → (cause ≡ 13 → ⊥)
    → OtherFaultySubterm (types_of s) (authority s) [] 0 (program s) cause at
other_faults s cause at e l u not-10 not-13 =
    let h = rejected_by_rules s cause at e l not-13 (λ h. omega arith) in
    infer_beyond (types_of s) (authority s) (lower_types s (well_formed s h.readable)) [] 0 (program s) cause at h.is u not-10

-- a derivation gives the sheet's root a function
abbrev pub FunctionDerivable : List ℕ → Type 0
FunctionDerivable s = (τ : ℕ) × (N : ℕ) × ((types_of s).is_fun τ ≡ true) × SheetDerives s τ N

-- "13 type of the root": "The root has type 0 or 1", and is told of, at the root, exactly if a derivation gives it a function; "13 last", after every
-- fault of a term
pub thirteen_exactly : (s : List ℕ) → Readable s → (at : ℕ) → (verdict s ≡ rejected 13 at) ↔ ((at ≡ root s) × FunctionDerivable s)
thirteen_exactly s r at = (λ e. judged (judgement s) refl (sym (readable_verdict s r (judgement s) refl) ∙ e), back)
  where
    w : WellFormed s
    w = well_formed s r

    L : PartsLower (types_of s)
    L = lower_types s w

    rooted : (b : Bool) (τ N : ℕ) → ltb τ 2 ≡ b → judgement s ≡ typed τ N
        → cond b (accepted (terms s) τ N) (rejected 13 (root s)) ≡ rejected 13 at → (at ≡ root s) × FunctionDerivable s
    rooted true τ N h j f = rejected≢accepted (sym f)
    rooted false τ N h j f =
        let d = infer_derives (types_of s) (authority s) L (program_standard s w) j in
        (cc, (τ, N, neither_function s w d (ltb-false τ 2 h), d))

    judged : (j : Judgement) → judgement s ≡ j → concluded (terms s) (root s) j ≡ rejected 13 at → (at ≡ root s) × FunctionDerivable s
    judged (typed τ N) h f = rooted (ltb τ 2) τ N refl h f
    judged (fault c p) h f = absurd (infer_not_13 (types_of s) (authority s) L [] 0 (program s) c p h (let z : c ≡ 13 = cc in z))

    back : (at ≡ root s) × FunctionDerivable s → verdict s ≡ rejected 13 at
    back (e, (τ, N, f, d)) =
        let x = infer_complete (types_of s) (authority s) L d in
        readable_verdict s r (typed τ x.least) x.is
        ∙ (λ i. cond (le-ltb τ 2 (function_type s w τ f).low i) (accepted (terms s) τ x.least) (rejected 13 (root s)))
        ∙ ap (rejected 13) (sym e)
