-- Where a term stands in another, and what the rules' faults say of a term there: the type faults 24, 25, 26 and 10, and 9, 11 and 12.
use Rattle.std.specs.Prelude.{true, false, List, ◌∷◌, ◌≡◌, ℕ, ◌≤◌, length}
use Rattle.std.proofs.Math.Option.{Option}
use Rattle.privileges.specs.Sets.{◌⊆◌}
use Rattle.program.specs.Layout.{Types}
use Rattle.program.specs.Terms.{Op, Term, variable, function, letrec, call, if, check, enable, sign, test, binary, post}
use Rattle.typing.specs.Subtyping.{Subtype}
use Rattle.typing.specs.Checking.{typed, infer}

-- Term d, in the bindings Δ and under the principal m, is the term c in Γ under n, or stands in it: a binder's parts have its bindings before the others,
-- and a sign's part has the principal of the sign.
pub data Within (T : Types) (Δ : List ℕ) (m : ℕ) (d : Term) : (Γ : List ℕ) (n : ℕ) (c : Term) → Type 0 where
  here : Within T Δ m d Δ m d
  in_function : {Γ : List ℕ} {n at ty : ℕ} {body : Term} → Within T Δ m d (T.arg ty ∷ Γ) n body → Within T Δ m d Γ n (function at ty body)
  in_letrec_body : {Γ : List ℕ} {n at ty : ℕ} {body rest : Term} → Within T Δ m d (T.arg ty ∷ ty ∷ Γ) n body → Within T Δ m d Γ n (letrec at ty body rest)
  in_letrec_rest : {Γ : List ℕ} {n at ty : ℕ} {body rest : Term} → Within T Δ m d (ty ∷ Γ) n rest → Within T Δ m d Γ n (letrec at ty body rest)
  in_call_function : {Γ : List ℕ} {n at : ℕ} {f a : Term} → Within T Δ m d Γ n f → Within T Δ m d Γ n (call at f a)
  in_call_argument : {Γ : List ℕ} {n at : ℕ} {f a : Term} → Within T Δ m d Γ n a → Within T Δ m d Γ n (call at f a)
  in_if_condition : {Γ : List ℕ} {n at : ℕ} {c y o : Term} → Within T Δ m d Γ n c → Within T Δ m d Γ n (if at c y o)
  in_if_yes : {Γ : List ℕ} {n at : ℕ} {c y o : Term} → Within T Δ m d Γ n y → Within T Δ m d Γ n (if at c y o)
  in_if_no : {Γ : List ℕ} {n at : ℕ} {c y o : Term} → Within T Δ m d Γ n o → Within T Δ m d Γ n (if at c y o)
  in_check : {Γ : List ℕ} {n at p : ℕ} {c : Term} → Within T Δ m d Γ n c → Within T Δ m d Γ n (check at p c)
  in_enable : {Γ : List ℕ} {n at p : ℕ} {c : Term} → Within T Δ m d Γ n c → Within T Δ m d Γ n (enable at p c)
  in_sign : {Γ : List ℕ} {n at k : ℕ} {c : Term} → Within T Δ m d Γ k c → Within T Δ m d Γ n (sign at k c)
  in_test_yes : {Γ : List ℕ} {n at p : ℕ} {y o : Term} → Within T Δ m d Γ n y → Within T Δ m d Γ n (test at p y o)
  in_test_no : {Γ : List ℕ} {n at p : ℕ} {y o : Term} → Within T Δ m d Γ n o → Within T Δ m d Γ n (test at p y o)
  in_left : {Γ : List ℕ} {n at : ℕ} {op : Op} {a b : Term} → Within T Δ m d Γ n a → Within T Δ m d Γ n (binary at op a b)
  in_right : {Γ : List ℕ} {n at : ℕ} {op : Op} {a b : Term} → Within T Δ m d Γ n b → Within T Δ m d Γ n (binary at op a b)
  in_post : {Γ : List ℕ} {n at ch : ℕ} {g : Option ℕ} {c : Term} → Within T Δ m d Γ n c → Within T Δ m d Γ n (post at ch g c)

-- 02, W5: "A call whose function part isn't a function, an argument that doesn't fit, and branches of which neither fits the other". The term's number
-- is `at`, and its children have types. "Fits" is 01's sentence, the relation, and not the algorithm's test.
pub data Mismatch (T : Types) (A : ℕ → ℕ) (Γ : List ℕ) (n : ℕ) : (cause at : ℕ) → Term → Type 0 where
  not_a_function : {at φ N α M : ℕ} {f a : Term} → infer T A Γ n f ≡ typed φ N → infer T A Γ n a ≡ typed α M → T.is_fun φ ≡ false
      → Mismatch T A Γ n 24 at (call at f a)
  unfit_argument : {at φ N α M : ℕ} {f a : Term} → infer T A Γ n f ≡ typed φ N → infer T A Γ n a ≡ typed α M → T.is_fun φ ≡ true
      → (Subtype T α (T.arg φ) → ⊥) → Mismatch T A Γ n 25 at (call at f a)
  -- the condition is a boolean: "at one if 10 before 26"
  unfit_if : {at N τ M ρ K : ℕ} {c y o : Term} → infer T A Γ n c ≡ typed 0 N → infer T A Γ n y ≡ typed τ M → infer T A Γ n o ≡ typed ρ K
      → (Subtype T τ ρ → ⊥) → (Subtype T ρ τ → ⊥) → Mismatch T A Γ n 26 at (if at c y o)
  unfit_test : {at p τ N ρ M : ℕ} {y o : Term} → infer T A Γ n y ≡ typed τ N → infer T A Γ n o ≡ typed ρ M
      → (Subtype T τ ρ → ⊥) → (Subtype T ρ τ → ⊥) → Mismatch T A Γ n 26 at (test at p y o)

-- "all other type faults stay 10": what else 01's rules ask of a term's types isn't so. The term's number is `at`, and its children have types. That a
-- function and a recursive binder name a function's type is the reader's to ask, by 6.
pub data OtherTypeFault (T : Types) (A : ℕ → ℕ) (Γ : List ℕ) (n : ℕ) : (at : ℕ) → Term → Type 0 where
  -- "A body has exactly the result type"
  other_result : {at ty τ N : ℕ} {body : Term} → infer T A (T.arg ty ∷ Γ) n body ≡ typed τ N → (τ ≡ T.res ty → ⊥)
      → OtherTypeFault T A Γ n at (function at ty body)
  -- "Recursive binder: the body as for a function"
  other_letrec_result : {at ty τ N ρ M : ℕ} {body rest : Term} → infer T A (T.arg ty ∷ ty ∷ Γ) n body ≡ typed τ N
      → infer T A (ty ∷ Γ) n rest ≡ typed ρ M → (τ ≡ T.res ty → ⊥) → OtherTypeFault T A Γ n at (letrec at ty body rest)
  -- "If: boolean condition"; whatever the branches are
  not_a_boolean : {at σ N τ M ρ K : ℕ} {c y o : Term} → infer T A Γ n c ≡ typed σ N → infer T A Γ n y ≡ typed τ M → infer T A Γ n o ≡ typed ρ K
      → (σ ≡ 0 → ⊥) → OtherTypeFault T A Γ n at (if at c y o)
  -- "Sum and difference: numbers give a number. Less: numbers give a boolean."
  left_not_a_number : {at τ N ρ M : ℕ} {op : Op} {a b : Term} → infer T A Γ n a ≡ typed τ N → infer T A Γ n b ≡ typed ρ M → (τ ≡ 1 → ⊥)
      → OtherTypeFault T A Γ n at (binary at op a b)
  right_not_a_number : {at τ N ρ M : ℕ} {op : Op} {a b : Term} → infer T A Γ n a ≡ typed τ N → infer T A Γ n b ≡ typed ρ M → (ρ ≡ 1 → ⊥)
      → OtherTypeFault T A Γ n at (binary at op a b)
  -- "Post: number to number."
  posted_not_a_number : {at ch τ N : ℕ} {g : Option ℕ} {c : Term} → infer T A Γ n c ≡ typed τ N → (τ ≡ 1 → ⊥) → OtherTypeFault T A Γ n at (post at ch g c)

-- The rules' other numbers: a variable past the bindings, needs of a sign and needs of a body. The term's number is `at`, and its children have types.
pub data OtherFault (T : Types) (A : ℕ → ℕ) (Γ : List ℕ) (n : ℕ) : (cause at : ℕ) → Term → Type 0 where
  -- "variable: first, 0 for the nearest binding"; "9 variable past the bindings"
  past_bindings : {at i : ℕ} → length Γ ≤ i → OtherFault T A Γ n 9 at (variable at i)
  -- "Sign n: its child's type and needs, which lie in A(n)"; "11 needs of a sign"
  sign_needs : {at m τ N : ℕ} {c : Term} → infer T A Γ m c ≡ typed τ N → (N ⊆ A m → ⊥) → OtherFault T A Γ n 11 at (sign at m c)
  -- "A body has exactly the result type; its needs lie in the latent set"; "12 needs of a body". Its type is right: "10 before 12"
  body_needs : {at ty N : ℕ} {body : Term} → infer T A (T.arg ty ∷ Γ) n body ≡ typed (T.res ty) N → (N ⊆ T.latent ty → ⊥)
      → OtherFault T A Γ n 12 at (function at ty body)
  -- "Recursive binder: the body as for a function"
  letrec_body_needs : {at ty N ρ M : ℕ} {body rest : Term} → infer T A (T.arg ty ∷ ty ∷ Γ) n body ≡ typed (T.res ty) N
      → infer T A (ty ∷ Γ) n rest ≡ typed ρ M → (N ⊆ T.latent ty → ⊥) → OtherFault T A Γ n 12 at (letrec at ty body rest)

-- some term in c, in the bindings and under the principal that it has there, is as `Is` says
pub record SomeSubterm (T : Types) (Is : List ℕ → ℕ → Term → Type 0) (Γ : List ℕ) (n : ℕ) (c : Term) : Type 0 where
  pub bindings : List ℕ
  pub principal : ℕ
  pub part : Term
  pub within : Within T bindings principal part Γ n c
  pub is : Is bindings principal part

-- a fault of a term: some term in it is wrong as the fault's number says
abbrev pub MismatchedSubterm : Types → (ℕ → ℕ) → List ℕ → ℕ → Term → (cause at : ℕ) → Type 0
MismatchedSubterm T A Γ n c cause at = SomeSubterm T (λ Δ m d. Mismatch T A Δ m cause at d) Γ n c

-- and of 10
abbrev pub OtherTypeFaultySubterm : Types → (ℕ → ℕ) → List ℕ → ℕ → Term → (at : ℕ) → Type 0
OtherTypeFaultySubterm T A Γ n c at = SomeSubterm T (λ Δ m d. OtherTypeFault T A Δ m at d) Γ n c

-- and of 9, 11 and 12
abbrev pub OtherFaultySubterm : Types → (ℕ → ℕ) → List ℕ → ℕ → Term → (cause at : ℕ) → Type 0
OtherFaultySubterm T A Γ n c cause at = SomeSubterm T (λ Δ m d. OtherFault T A Δ m cause at d) Γ n c
