-- The rules: 003's Figure 3 as 01's section "Rules" has it. `Derives W T A Γ n c τ N` says that the term c, under the signing principal n and in
-- the context Γ of its bindings' types, the nearest first, has type τ and needs N. T are the sheet's types, A n is the set that principal n may use.
-- W is what 02's requests have changed: the rules in force are those of `current`, 01's own those of `base`.
use Rattle.std.specs.Prelude.{Bool, true, cond, List, [], ◌∷◌, ◌≡◌, ℕ, zero, suc}
use Rattle.std.proofs.Math.Option.{Option, none, some}
use Rattle.privileges.specs.Sets.{has, union, insert, remove, ◌⊆◌}
use Rattle.program.specs.Layout.{Types}
use Rattle.program.specs.Terms.{Op, sum, difference, less, Term, boolean, number, variable, function, letrec, call, if, check, enable, sign, test, binary, post}
use Rattle.typing.specs.Subtyping.{Subtype, Wider}

-- a variable's type: "variable: first, 0 for the nearest binding"
abbrev pub lookup_type : List ℕ → (i : ℕ) → Option ℕ
lookup_type [] i = none
lookup_type (τ ∷ Γ) zero = some τ
lookup_type (τ ∷ Γ) (suc i) = lookup_type Γ i

-- "Enable removes p if p is in A of the signing principal, else changes nothing."
unfoldable pub remove_authorised : (ℕ → ℕ) → (n p N : ℕ) → ℕ
remove_authorised A n p N = cond (has p (A n)) (remove p N) N

-- 02, W8: "A guarded post adds its privilege to the needs". Without a guard they are the child's, as in 01.
abbrev pub post_needs : (guard : Option ℕ) (N : ℕ) → ℕ
post_needs none N = N
post_needs (some p) N = insert p N

-- "Sum and difference: numbers give a number. Less: numbers give a boolean."
abbrev pub result_type : Op → ℕ
result_type sum = 1
result_type difference = 1
result_type less = 0

-- "branches of the same type", which is the type of both
pub data Same (T : Types) : (a b c : ℕ) → Type 0 where
  same : {a : ℕ} → Same T a a a

-- What 02's requests change in 01's rules. It is a parameter of the rules, so that those of before are an instance of the same relation.
pub record Variant : Type 1 where
  -- what a test of p takes over from its yes-branch, whose needs are N
  pub yes_needs : (p N : ℕ) → ℕ
  -- the type c of an if or a test whose branches have the types a and b
  pub Branches : Types → (a b c : ℕ) → Type 0
  -- the needs of a post with this guard, or none, whose number needs N
  pub guard_needs : (guard : Option ℕ) (N : ℕ) → ℕ

-- 01: "If: boolean condition, branches of the same type; union. Test: branches of the same type; union." 01 knows no guards: on a sheet of version 2 a
-- guard counts as in the rules in force.
abbrev pub base : Variant
base = record { yes_needs = λ p N. N; Branches = Same; guard_needs = post_needs }

-- 02, W1: "a test of p takes p out of the needs of its yes-branch before the union". The rules before W4; on a sheet of version 2 a guard counts as in
-- the rules in force, as in `base`.
abbrev pub after_w1 : Variant
after_w1 = record { yes_needs = λ p N. remove p N; Branches = Same; guard_needs = post_needs }

-- 02, W4: "If and test now take branches where one type fits the other, and have the wider type." The rules before W8, which look at no guard.
abbrev pub after_w4 : Variant
after_w4 = record { yes_needs = λ p N. remove p N; Branches = Wider; guard_needs = λ g N. N }

-- 02, W8: "A guarded post adds its privilege to the needs"
abbrev pub current : Variant
current = record { yes_needs = λ p N. remove p N; Branches = Wider; guard_needs = post_needs }

pub data Derives (W : Variant) (T : Types) (A : ℕ → ℕ) : (Γ : List ℕ) (n : ℕ) (c : Term) (τ N : ℕ) → Type 0 where
  -- "Booleans, numbers, variables and functions: needs empty." Figure 3: true, x, fun.
  d_boolean : {Γ : List ℕ} {n at : ℕ} {b : Bool} → Derives W T A Γ n (boolean at b) 0 0
  d_number : {Γ : List ℕ} {n at k : ℕ} → Derives W T A Γ n (number at k) 1 0
  d_variable : {Γ : List ℕ} {n at i τ : ℕ} → lookup_type Γ i ≡ some τ → Derives W T A Γ n (variable at i) τ 0
  -- "A body has exactly the result type; its needs lie in the latent set." "In a body of kind 3 variable 0 is the argument."
  d_function : {Γ : List ℕ} {n at ty N : ℕ} {body : Term} → T.is_fun ty ≡ true → Derives W T A (T.arg ty ∷ Γ) n body (T.res ty) N
      → N ⊆ T.latent ty → Derives W T A Γ n (function at ty body) ty 0
  -- "Recursive binder: the body as for a function; needs are the latent set and the rest's." Figure 3: letrec. "In a body of kind 4 variable 0
  -- is the argument and 1 the function; in the rest 0 is the function."
  d_letrec : {Γ : List ℕ} {n at ty N τ M : ℕ} {body rest : Term} → T.is_fun ty ≡ true → Derives W T A (T.arg ty ∷ ty ∷ Γ) n body (T.res ty) N
      → N ⊆ T.latent ty → Derives W T A (ty ∷ Γ) n rest τ M → Derives W T A Γ n (letrec at ty body rest) τ (union (T.latent ty) M)
  -- "Call: the argument fits; needs are the latent set and both children's." Figure 3: e1 e2.
  d_call : {Γ : List ℕ} {n at φ α N M : ℕ} {f a : Term} → Derives W T A Γ n f φ N → Derives W T A Γ n a α M → T.is_fun φ ≡ true
      → Subtype T α (T.arg φ) → Derives W T A Γ n (call at f a) (T.res φ) (union (T.latent φ) (union N M))
  -- "If: boolean condition, branches of the same type; union." Figure 3: if. W4 takes branches where one type fits the other: `Branches`.
  d_if : {Γ : List ℕ} {n at τ ρ υ N M K : ℕ} {c y o : Term} → Derives W T A Γ n c 0 N → Derives W T A Γ n y τ M → Derives W T A Γ n o ρ K
      → W.Branches T τ ρ υ → Derives W T A Γ n (if at c y o) υ (union N (union M K))
  -- "Test: branches of the same type; union." Figure 3: test. W1 takes p out of the yes-branch's needs, `yes_needs`; `Branches` as for if.
  d_test : {Γ : List ℕ} {n at p τ ρ υ N M : ℕ} {y o : Term} → Derives W T A Γ n y τ N → Derives W T A Γ n o ρ M
      → W.Branches T τ ρ υ → Derives W T A Γ n (test at p y o) υ (union (W.yes_needs p N) M)
  -- "Check adds p." Figure 3: check.
  d_check : {Γ : List ℕ} {n at p τ N : ℕ} {c : Term} → Derives W T A Γ n c τ N → Derives W T A Γ n (check at p c) τ (insert p N)
  -- "Enable removes p if p is in A of the signing principal, else changes nothing." Figure 3: dopriv.
  d_enable : {Γ : List ℕ} {n at p τ N : ℕ} {c : Term} → Derives W T A Γ n c τ N → Derives W T A Γ n (enable at p c) τ (remove_authorised A n p N)
  -- "Sign n: its child's type and needs, which lie in A(n)." Figure 3: signs.
  d_sign : {Γ : List ℕ} {n at m τ N : ℕ} {c : Term} → Derives W T A Γ m c τ N → N ⊆ A m → Derives W T A Γ n (sign at m c) τ N
  -- "Sum and difference: numbers give a number. Less: numbers give a boolean. … Union of needs."
  d_binary : {Γ : List ℕ} {n at N M : ℕ} {op : Op} {a b : Term} → Derives W T A Γ n a 1 N → Derives W T A Γ n b 1 M
      → Derives W T A Γ n (binary at op a b) (result_type op) (union N M)
  -- "Post: number to number." 02, W8: "A guarded post adds its privilege to the needs": `guard_needs`.
  d_post : {Γ : List ℕ} {n at ch N : ℕ} {g : Option ℕ} {c : Term} → Derives W T A Γ n c 1 N → Derives W T A Γ n (post at ch g c) 1 (W.guard_needs g N)
  -- "A derivation may widen needs to any larger set at any term."
  d_widen : {Γ : List ℕ} {n τ N M : ℕ} {c : Term} → Derives W T A Γ n c τ N → N ⊆ M → Derives W T A Γ n c τ M
