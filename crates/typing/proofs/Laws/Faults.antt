-- A term is refused by 24, 25, 26, 10, 9, 11 or 12 only where a term in it is as these say, a term that is so is refused by that number, the rules tell no
-- other, and the reader refuses by lower numbers or by 31.
use Rattle.std.specs.Prelude.{Bool, cond, ◌&&◌, ◌||◌, List, [], ◌∷◌, ◌++◌, ◌⊎◌, ◌≡◌, ℕ, zero, suc, ◌<◌, ◌≤◌, eqb, ltb, length}
use Rattle.std.proofs.Math.Bool.{true, false, and-false}
use Rattle.std.proofs.Common.{true≢false, inl, inr, sym, ◌∙◌, subst, arith}
use Rattle.std.proofs.lemmas.Bool.{false≢true}
use Rattle.std.proofs.Math.Option.{Option, none, some, none-ne-some}
use Rattle.std.proofs.Math.Path.{refl, ap}
use borrow.Author.Tests.{eqb-true, eqb-false, eq-eqb, ne_eqb, ltb-true}
use Rattle.privileges.specs.Booleans.{and_left, and_right, bool_ext}
use Rattle.privileges.specs.Sets.{◌⊆◌, subset}
use Rattle.privileges.specs.Laws.{subset_⊆, ⊆_subset}
use Rattle.program.specs.Limits.{max_principals, max_types, max_terms, max_channels}
use Rattle.program.specs.Layout.{Types, version, has_guards, type_field, term_field, guard_field, sheet_end}
use Rattle.program.specs.Terms.{Term, boolean, number, variable, function, letrec, call, if, check, enable, sign, test, binary, post}
use Rattle.program.specs.Screening.{Condition, found, unless, First, first_here, first_later}
use Rattle.program.specs.Decoding.{holds, field, table_conditions, decoding_conditions, decoding}
use Rattle.program.proofs.Laws.Screening.{found_first}
use Rattle.program.proofs.Laws.Types.{PartsLower}
use Rattle.typing.specs.Subtyping.{Subtype, subtype, wider}
use Rattle.typing.specs.Rules.{lookup_type}
use Rattle.typing.specs.Checking.{Judgement, typed, fault, ◌next◌, require, variable_type, joined, body_fits, infer}
use Rattle.typing.specs.Faults.{Within, here, in_function, in_letrec_body, in_letrec_rest, in_call_function, in_call_argument, in_if_condition, in_if_yes, in_if_no, in_check, in_enable, in_sign, in_test_yes, in_test_no, in_left, in_right, in_post, Mismatch, not_a_function, unfit_argument, unfit_if, unfit_test, OtherTypeFault, other_result, other_letrec_result, not_a_boolean, left_not_a_number, right_not_a_number, posted_not_a_number, OtherFault, past_bindings, sign_needs, body_needs, letrec_body_needs, SomeSubterm, MismatchedSubterm, OtherTypeFaultySubterm, OtherFaultySubterm}
use Rattle.typing.proofs.Laws.Subtyping.{refuted, fails}

-- ---- only where a term is so

-- what the rules tell of a term itself
data FaultAt (T : Types) (A : ℕ → ℕ) (Γ : List ℕ) (n : ℕ) : (cause at : ℕ) → Term → Type 0 where
  wrong : {cause at : ℕ} {c : Term} → Mismatch T A Γ n cause at c → FaultAt T A Γ n cause at c
  ten : {at : ℕ} {c : Term} → OtherTypeFault T A Γ n at c → FaultAt T A Γ n 10 at c
  beyond : {cause at : ℕ} {c : Term} → OtherFault T A Γ n cause at c → FaultAt T A Γ n cause at c

-- a judgement of a term: typed, or what is told of a part of it
data FaultExplained (T : Types) (A : ℕ → ℕ) (Γ : List ℕ) (n : ℕ) (c : Term) : Judgement → Type 0 where
  well : {τ N : ℕ} → FaultExplained T A Γ n c (typed τ N)
  faulted : {cause at : ℕ} → SomeSubterm T (λ Δ m d. FaultAt T A Δ m cause at d) Γ n c → FaultExplained T A Γ n c (fault cause at)

module _ {T : Types} {Is : List ℕ → ℕ → Term → Type 0} {Γ : List ℕ} {n : ℕ} {c : Term} where
  -- what is within a child is within the term, and what follows from what it was is so there
  above : {Was : List ℕ → ℕ → Term → Type 0} {Γ' : List ℕ} {n' : ℕ} {c' : Term}
      → ((Δ : List ℕ) (m : ℕ) (d : Term) → Within T Δ m d Γ' n' c' → Within T Δ m d Γ n c)
      → ((Δ : List ℕ) (m : ℕ) (d : Term) → Was Δ m d → Is Δ m d) → SomeSubterm T Was Γ' n' c' → SomeSubterm T Is Γ n c
  above up so f = record {
    bindings = f.bindings;
    principal = f.principal;
    part = f.part;
    within = up f.bindings f.principal f.part f.within;
    is = so f.bindings f.principal f.part f.is;
  }

  self : Is Γ n c → SomeSubterm T Is Γ n c
  self h = record { bindings = Γ; principal = n; part = c; within = here; is = h }

module _ {T : Types} {A : ℕ → ℕ} {Γ : List ℕ} {n : ℕ} {c : Term} where
  -- a child first
  next_explained : {Γ' : List ℕ} {n' : ℕ} {c' : Term} (k : ℕ → ℕ → Judgement) → FaultExplained T A Γ' n' c' (infer T A Γ' n' c')
      → ((Δ : List ℕ) (m : ℕ) (d : Term) → Within T Δ m d Γ' n' c' → Within T Δ m d Γ n c)
      → ((τ N : ℕ) → infer T A Γ' n' c' ≡ typed τ N → FaultExplained T A Γ n c (k τ N)) → FaultExplained T A Γ n c (infer T A Γ' n' c' next k)
  next_explained {Γ'} {n'} {c'} k t up h = go (infer T A Γ' n' c') refl t
    where
      go : (j : Judgement) → infer T A Γ' n' c' ≡ j → FaultExplained T A Γ' n' c' j → FaultExplained T A Γ n c (j next k)
      go (typed τ N) e well = h τ N e
      go (fault cause at) e (faulted f) = faulted (above up (λ _ _ _ x. x) f)

  require_explained : (b : Bool) (cause at : ℕ) {j : Judgement} → (b ≡ false → FaultAt T A Γ n cause at c) → (b ≡ true → FaultExplained T A Γ n c j)
      → FaultExplained T A Γ n c (require b cause at j)
  require_explained true cause at f h = h refl
  require_explained false cause at f h = faulted (self (f refl))

  ten_explained : (x y at : ℕ) {j : Judgement} → ((x ≡ y → ⊥) → OtherTypeFault T A Γ n at c) → (x ≡ y → FaultExplained T A Γ n c j)
      → FaultExplained T A Γ n c (require (eqb x y) 10 at j)
  ten_explained x y at f h = require_explained (eqb x y) 10 at (λ e. ten (f (eqb-false x y e))) (λ e. h (eqb-true x y e))

  -- needs N that have to lie in the set S
  needs_explained : (N S cause at : ℕ) {j : Judgement} → ((N ⊆ S → ⊥) → OtherFault T A Γ n cause at c) → FaultExplained T A Γ n c j
      → FaultExplained T A Γ n c (require (subset N S) cause at j)
  needs_explained N S cause at f t = require_explained (subset N S) cause at (λ e. beyond (f λ s. true≢false (sym (⊆_subset s) ∙ e))) λ _. t

  -- a body of type τ and with needs N, by a function or a letrec
  body_explained : (at ty τ N : ℕ) {j : Judgement} → ((τ ≡ T.res ty → ⊥) → OtherTypeFault T A Γ n at c)
      → (τ ≡ T.res ty → (N ⊆ T.latent ty → ⊥) → OtherFault T A Γ n 12 at c) → FaultExplained T A Γ n c j → FaultExplained T A Γ n c (body_fits T A at ty τ N j)
  body_explained at ty τ N f g t = ten_explained τ (T.res ty) at f λ e. needs_explained N (T.latent ty) 12 at (g e) t

  -- two operands of the types τ and ρ
  operands_explained : (τ ρ at : ℕ) {j : Judgement} → ((τ ≡ 1 → ⊥) → OtherTypeFault T A Γ n at c) → ((ρ ≡ 1 → ⊥) → OtherTypeFault T A Γ n at c)
      → FaultExplained T A Γ n c j
      → FaultExplained T A Γ n c (require (eqb τ 1 && eqb ρ 1) 10 at j)
  operands_explained τ ρ at {j} f g t = go (eqb τ 1) (eqb ρ 1) refl refl
    where
      go : (x y : Bool) → eqb τ 1 ≡ x → eqb ρ 1 ≡ y → FaultExplained T A Γ n c (require (x && y) 10 at j)
      go true true p q = t
      go true false p q = faulted (self (ten (g (eqb-false ρ 1 q))))
      go false y p q = faulted (self (ten (f (eqb-false τ 1 p))))

  -- branches of the types τ and ρ
  branches_explained : PartsLower T → (at τ ρ N : ℕ) → ((Subtype T τ ρ → ⊥) → (Subtype T ρ τ → ⊥) → Mismatch T A Γ n 26 at c)
      → FaultExplained T A Γ n c (joined at (wider T τ ρ) N)
  unfolding wider
  branches_explained L at τ ρ N h = go (subtype T τ ρ) (subtype T ρ τ) refl refl
    where
      go : (x y : Bool) → subtype T τ ρ ≡ x → subtype T ρ τ ≡ y → FaultExplained T A Γ n c (joined at (cond x (some ρ) (cond y (some τ) none)) N)
      go true y e f = well
      go false true e f = well
      go false false e f = faulted (self (wrong (h (fails T L τ ρ e) (fails T L ρ τ f))))

  variable_explained : (at : ℕ) (o : Option ℕ) → (o ≡ none → OtherFault T A Γ n 9 at c) → FaultExplained T A Γ n c (variable_type at o)
  variable_explained at none h = faulted (self (beyond (h refl)))
  variable_explained at (some τ) h = well

-- a variable has no type exactly if it is past the bindings
bound_past : (Γ : List ℕ) (i : ℕ) → lookup_type Γ i ≡ none → length Γ ≤ i
bound_past [] i e = omega arith
bound_past (τ ∷ Γ) zero e = absurd (none-ne-some τ (sym e))
bound_past (τ ∷ Γ) (suc i) e = omega (arith, bound_past Γ i e)

past_bound : (Γ : List ℕ) (i : ℕ) → length Γ ≤ i → lookup_type Γ i ≡ none
past_bound [] i l = refl
past_bound (τ ∷ Γ) zero l = absurd (omega arith)
past_bound (τ ∷ Γ) (suc i) l = past_bound Γ i (omega arith)

module _ (T : Types) (A : ℕ → ℕ) where
  wrong_cause : {Γ : List ℕ} {n cause at : ℕ} {c : Term} → Mismatch T A Γ n cause at c → 24 ≤ cause
  wrong_cause (not_a_function e e' h) = omega arith
  wrong_cause (unfit_argument e e' h h') = omega arith
  wrong_cause (unfit_if e e' e'' h h') = omega arith
  wrong_cause (unfit_test e e' h h') = omega arith

  beyond_cause : {Γ : List ℕ} {n cause at : ℕ} {c : Term} → OtherFault T A Γ n cause at c → (cause < 13) × (cause ≡ 10 → ⊥)
  beyond_cause (past_bindings l) = (omega arith, λ h. omega arith)
  beyond_cause (sign_needs e h) = (omega arith, λ h. omega arith)
  beyond_cause (body_needs e h) = (omega arith, λ h. omega arith)
  beyond_cause (letrec_body_needs e e' h) = (omega arith, λ h. omega arith)

  module _ (L : PartsLower T) where
    explained : (Γ : List ℕ) (n : ℕ) (c : Term) → FaultExplained T A Γ n c (infer T A Γ n c)
    unfolding infer
    explained Γ n (boolean at b) = well
    explained Γ n (number at k) = well
    explained Γ n (variable at i) = variable_explained at (lookup_type Γ i) λ e. past_bindings (bound_past Γ i e)
    explained Γ n (function at ty body) = next_explained _ (explained (T.arg ty ∷ Γ) n body) (λ _ _ _ w. in_function w) λ τ N e.
        body_explained at ty τ N (λ h. other_result e h) (λ g h. body_needs (e ∙ ap (λ (x : ℕ). typed x N) g) h) well
    explained Γ n (letrec at ty body rest) = next_explained _ (explained (T.arg ty ∷ ty ∷ Γ) n body) (λ _ _ _ w. in_letrec_body w) λ τ N e.
        next_explained _ (explained (ty ∷ Γ) n rest) (λ _ _ _ w. in_letrec_rest w) λ ρ M e'.
        body_explained at ty τ N (λ h. other_letrec_result e e' h) (λ g h. letrec_body_needs (e ∙ ap (λ (x : ℕ). typed x N) g) e' h) well
    explained Γ n (call at f a) = next_explained _ (explained Γ n f) (λ _ _ _ w. in_call_function w) λ φ N e.
        next_explained _ (explained Γ n a) (λ _ _ _ w. in_call_argument w) λ α M e'.
        require_explained (T.is_fun φ) 24 at (λ h. wrong (not_a_function e e' h)) λ h.
        require_explained (subtype T α (T.arg φ)) 25 at (λ h'. wrong (unfit_argument e e' h (fails T L α (T.arg φ) h'))) λ _. well
    explained Γ n (if at c y o) = next_explained _ (explained Γ n c) (λ _ _ _ w. in_if_condition w) λ σ N e.
        next_explained _ (explained Γ n y) (λ _ _ _ w. in_if_yes w) λ τ M e'.
        next_explained _ (explained Γ n o) (λ _ _ _ w. in_if_no w) λ ρ K e''.
        ten_explained σ 0 at (λ h. not_a_boolean e e' e'' h) λ h. branches_explained L at τ ρ _ λ p q.
        unfit_if (e ∙ ap (λ (x : ℕ). typed x N) h) e' e'' p q
    explained Γ n (check at p c) = next_explained _ (explained Γ n c) (λ _ _ _ w. in_check w) λ τ N e. well
    explained Γ n (enable at p c) = next_explained _ (explained Γ n c) (λ _ _ _ w. in_enable w) λ τ N e. well
    explained Γ n (sign at m c) = next_explained _ (explained Γ m c) (λ _ _ _ w. in_sign w) λ τ N e.
        needs_explained N (A m) 11 at (λ h. sign_needs e h) well
    explained Γ n (test at p y o) = next_explained _ (explained Γ n y) (λ _ _ _ w. in_test_yes w) λ τ N e.
        next_explained _ (explained Γ n o) (λ _ _ _ w. in_test_no w) λ ρ M e'.
        branches_explained L at τ ρ _ λ q r. unfit_test e e' q r
    explained Γ n (binary at op a b) = next_explained _ (explained Γ n a) (λ _ _ _ w. in_left w) λ τ N e.
        next_explained _ (explained Γ n b) (λ _ _ _ w. in_right w) λ ρ M e'.
        operands_explained τ ρ at (λ h. left_not_a_number e e' h) (λ h. right_not_a_number e e' h) well
    explained Γ n (post at ch g c) = next_explained _ (explained Γ n c) (λ _ _ _ w. in_post w) λ τ N e.
        ten_explained τ 1 at (λ h. posted_not_a_number e h) λ _. well

    module _ (Γ : List ℕ) (n : ℕ) (c : Term) (cause at : ℕ) (e : infer T A Γ n c ≡ fault cause at) where
      -- a fault is told of a part, and what follows from what is told of it there is so
      part_faulted : {Is : List ℕ → ℕ → Term → Type 0} → ((Δ : List ℕ) (m : ℕ) (d : Term) → FaultAt T A Δ m cause at d → Is Δ m d) → SomeSubterm T Is Γ n c
      part_faulted so = go so (subst (FaultExplained T A Γ n c) e (explained Γ n c))
        where
          go : {cause at : ℕ} {Is : List ℕ → ℕ → Term → Type 0} → ((Δ : List ℕ) (m : ℕ) (d : Term) → FaultAt T A Δ m cause at d → Is Δ m d)
              → FaultExplained T A Γ n c (fault cause at) → SomeSubterm T Is Γ n c
          go so (faulted f) = above (λ _ _ _ w. w) so f

      pub infer_faulty : 24 ≤ cause → MismatchedSubterm T A Γ n c cause at
      infer_faulty l = part_faulted λ _ _ _ t. go t l
        where
          go : {Δ : List ℕ} {m cause at : ℕ} {d : Term} → FaultAt T A Δ m cause at d → 24 ≤ cause → Mismatch T A Δ m cause at d
          go (wrong w) l = w
          go (ten t) l = absurd (omega arith)
          go (beyond b) l = absurd (omega (arith, (beyond_cause b).0))

      pub infer_ten : cause ≡ 10 → OtherTypeFaultySubterm T A Γ n c at
      infer_ten q = part_faulted λ _ _ _ t. go t q
        where
          go : {Δ : List ℕ} {m cause at : ℕ} {d : Term} → FaultAt T A Δ m cause at d → cause ≡ 10 → OtherTypeFault T A Δ m at d
          go (wrong w) q = absurd (omega (arith, wrong_cause w))
          go (ten t) q = t
          go (beyond b) q = absurd ((beyond_cause b).1 q)

      pub infer_beyond : cause < 24 → (cause ≡ 10 → ⊥) → OtherFaultySubterm T A Γ n c cause at
      infer_beyond l not-ten = part_faulted λ _ _ _ t. go t l not-ten
        where
          go : {Δ : List ℕ} {m cause at : ℕ} {d : Term} → FaultAt T A Δ m cause at d → cause < 24 → (cause ≡ 10 → ⊥) → OtherFault T A Δ m cause at d
          go (wrong w) l not-ten = absurd (omega (arith, wrong_cause w))
          go (ten t) l not-ten = absurd (not-ten refl)
          go (beyond b) l not-ten = b

      -- 13 is the root's
      pub infer_not_13 : cause ≡ 13 → ⊥
      infer_not_13 q = omega (arith, (beyond_cause (infer_beyond (omega arith) (λ h. omega arith)).is).0)

  -- ---- where a term is so
  pub wrong_fault : {Γ : List ℕ} {n cause at : ℕ} {c : Term} → Mismatch T A Γ n cause at c → infer T A Γ n c ≡ fault cause at
  unfolding infer wider
  wrong_fault (not_a_function e e' h) = simp (e, e', h)
  wrong_fault (unfit_argument e e' h h') = simp (e, e', h, refuted T h')
  wrong_fault (unfit_if e e' e'' h h') = simp (e, e', e'', refuted T h, refuted T h')
  wrong_fault (unfit_test e e' h h') = simp (e, e', refuted T h, refuted T h')

  pub ten_fault : {Γ : List ℕ} {n at : ℕ} {c : Term} → OtherTypeFault T A Γ n at c → infer T A Γ n c ≡ fault 10 at
  unfolding infer
  ten_fault (other_result {ty = ty} {τ = τ} e h) = simp (e, ne_eqb τ (T.res ty) h)
  ten_fault (other_letrec_result {ty = ty} {τ = τ} e e' h) = simp (e, e', ne_eqb τ (T.res ty) h)
  ten_fault (not_a_boolean {σ = σ} e e' e'' h) = simp (e, e', e'', ne_eqb σ 0 h)
  ten_fault (left_not_a_number {τ = τ} e e' h) = simp (e, e', ne_eqb τ 1 h)
  ten_fault (right_not_a_number {τ = τ} {ρ = ρ} e e' h) = simp (e, e', ne_eqb ρ 1 h, and-false)
  ten_fault (posted_not_a_number {τ = τ} e h) = simp (e, ne_eqb τ 1 h)

  outside : {N S : ℕ} → (N ⊆ S → ⊥) → subset N S ≡ false
  outside {N} {S} h = bool_ext (subset N S) false (λ e. absurd (h (subset_⊆ N S e))) (λ e. absurd (false≢true e))

  pub beyond_fault : {Γ : List ℕ} {n cause at : ℕ} {c : Term} → OtherFault T A Γ n cause at c → infer T A Γ n c ≡ fault cause at
  unfolding infer
  beyond_fault {Γ = Γ} (past_bindings {i = i} l) = simp (past_bound Γ i l)
  beyond_fault (sign_needs e h) = simp (e, outside h)
  beyond_fault (body_needs {ty = ty} e h) = simp (e, eq-eqb (T.res ty) (T.res ty) refl, outside h)
  beyond_fault (letrec_body_needs {ty = ty} e e' h) = simp (e, e', eq-eqb (T.res ty) (T.res ty) refl, outside h)

-- ---- the reader's numbers are others
abbrev readers : ℕ → Bool
readers cause = ltb cause 9 || eqb cause 31

abbrev all_readers : List Condition → Bool
all_readers [] = true
all_readers (c ∷ cs) = readers c.cause && all_readers cs

first_readers : {cause place : ℕ} {cs : List Condition} → First cause place cs → all_readers cs ≡ true → readers cause ≡ true
first_readers (first_here {c} {cs} e f) h = subst (λ x. readers x ≡ true) e (and_left (readers c.cause) (all_readers cs) h)
first_readers (first_later {c} {cs} f r) h = first_readers r (and_right (readers c.cause) (all_readers cs) h)

-- tag 5 stands in version 2 alone
readers_conditions : (s : List ℕ) → all_readers (decoding_conditions s) ≡ true
readers_conditions s = go (has_guards s)
  where
    go : (b : Bool)
        → all_readers ((field s 0 1 (holds 2 1 1) ++ unless 3 (eqb (version s) 1 || eqb (version s) 2)
        ∷ field s 5 2 (holds 4 1 max_principals) ++ field s (type_field s) 3 (holds 10 2 max_types) ++ field s (term_field s) 4 (holds 8 1 max_terms)
        ++ cond b (field s (guard_field s) 5 (holds max_channels 1 1)) [] ++ unless 2 (eqb (sheet_end s) (length s)) ∷ []) ++ table_conditions s) ≡ true
    go true = refl
    go false = refl

pub decoding_readers : (s : List ℕ) (cause place : ℕ) → decoding s ≡ found cause place → (cause < 9) ⊎ (cause ≡ 31)
unfolding decoding
decoding_readers s cause place e = go (ltb cause 9) refl (first_readers (found_first (decoding_conditions s) cause place e) (readers_conditions s))
  where
    go : (b : Bool) → ltb cause 9 ≡ b → (b || eqb cause 31) ≡ true → (cause < 9) ⊎ (cause ≡ 31)
    go true h r = inl (ltb-true cause 9 h)
    go false h r = inr (eqb-true cause 31 r)
