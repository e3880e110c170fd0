-- Why a sheet needs a privilege: 02, W7. "Given an accepted sheet and a privilege, answer a chain of terms from the root." W8: a guarded post "counts as
-- a cause where a need is traced".
use Rattle.std.specs.Prelude.{Bool, true, false, cond, ℕ, zero, suc, eqb, leb}
use mathlib.Core.List.{List, [], ◌∷◌, map, tail}
use Rattle.std.proofs.Math.Option.{Option, none, some}
use Rattle.privileges.specs.Sets.{has}
use Rattle.program.specs.Limits.{max_nesting, max_privilege}
use Rattle.program.specs.Layout.{Types, authority, types_of}
use Rattle.program.specs.Terms.{Term, boolean, number, variable, function, letrec, call, if, check, enable, sign, test, binary, post, contains}
use Rattle.typing.specs.Places.{Placed, placed, placed_number, children_in, root_of}
use Rattle.typing.specs.Checking.{Judgement, typed, fault, infer}
use Rattle.typing.specs.Verdicts.{Verdict, accepted, rejected, verdict}

-- whether a privilege is among the needs of a judgement, and in the latent set of its type
abbrev pub needing : (p : ℕ) → Judgement → Bool
needing p (typed τ N) = has p N
needing p (fault c at) = false

abbrev pub in_latent : Types → (p : ℕ) → Judgement → Bool
in_latent T p (typed φ N) = has p (T.latent φ)
in_latent T p (fault c at) = false

module _ (T : Types) (A : ℕ → ℕ) (p : ℕ) where
  -- "each has the privilege among its own needs": as it is judged in its bindings and under its principal
  unfoldable pub needs : Placed → Bool
  needs (placed Γ n c) = needing p (infer T A Γ n c)

  -- "a check that names it, or a call or recursive binder whose latent set holds it"; or a post that it guards
  abbrev pub cause_in : (Γ : List ℕ) (n : ℕ) → Term → Bool
  cause_in Γ n (boolean at b) = false
  cause_in Γ n (number at k) = false
  cause_in Γ n (variable at i) = false
  cause_in Γ n (function at ty body) = false
  cause_in Γ n (letrec at ty body rest) = has p (T.latent ty)
  cause_in Γ n (call at f a) = in_latent T p (infer T A Γ n f)
  cause_in Γ n (if at c y o) = false
  cause_in Γ n (check at q c) = eqb q p
  cause_in Γ n (enable at q c) = false
  cause_in Γ n (sign at m c) = false
  cause_in Γ n (test at q y o) = false
  cause_in Γ n (binary at op a b) = false
  cause_in Γ n (post at ch g c) = contains p g

  unfoldable pub is_cause : Placed → Bool
  is_cause (placed Γ n c) = cause_in Γ n c

  -- whether a term is a test of the privilege; the first child of a test is its yes-branch
  abbrev pub tests_it : Term → Bool
  tests_it (boolean at b) = false
  tests_it (number at k) = false
  tests_it (variable at i) = false
  tests_it (function at ty body) = false
  tests_it (letrec at ty body rest) = false
  tests_it (call at f a) = false
  tests_it (if at c y o) = false
  tests_it (check at q c) = false
  tests_it (enable at q c) = false
  tests_it (sign at m c) = false
  tests_it (test at q y o) = eqb q p
  tests_it (binary at op a b) = false
  tests_it (post at ch g c) = false

  -- the children that may be followed: "The yes-branch of a test of that privilege never qualifies."
  abbrev pub followed_in : (Γ : List ℕ) (n : ℕ) → Term → List Placed
  followed_in Γ n c = cond (tests_it c) (tail (children_in T Γ n c)) (children_in T Γ n c)

  unfoldable pub followed : Placed → List Placed
  followed (placed Γ n c) = followed_in Γ n c

  -- "Where several children qualify the lowest position is followed"
  abbrev pub or_later : Bool → Placed → (Unit {0} → Option Placed) → Option Placed
  or_later true x later = some x
  or_later false x later = later tt

  abbrev pub first_needing : List Placed → Option Placed
  first_needing [] = none
  first_needing (x ∷ xs) = or_later (needs x) x λ _. first_needing xs

  -- "a term that is a cause itself ends the chain"
  abbrev pub unless_cause : Bool → (Unit {0} → Option Placed) → Option Placed
  unless_cause true later = none
  unless_cause false later = later tt

  unfoldable pub next : Placed → Option Placed
  next x = unless_cause (is_cause x) λ _. first_needing (followed x)

  -- the chain from a term on, of at most so many terms; no sheet has one longer than its nesting, 32
  abbrev pub chain_from : Option Placed → (Placed → List Placed) → List Placed
  chain_from none later = []
  chain_from (some x) later = later x

  unfoldable pub chain : (most : ℕ) → Placed → List Placed
  chain zero x = []
  chain (suc k) x = x ∷ chain_from (next x) λ y. chain k y

-- "If the privilege isn't needed the answer says so, and only then. The judge's own refusals come first, and a privilege above 31 is 30."
pub data Explained : Type 0 where
  explained : (terms : List ℕ) → Explained
  not_needed : Explained
  refused : (cause place : ℕ) → Explained

unfoldable pub chain_of : List ℕ → (p : ℕ) → List Placed
chain_of s p = chain (types_of s) (authority s) p max_nesting (root_of s)

abbrev pub explained_if : List ℕ → (p : ℕ) (needed : Bool) → Explained
explained_if s p true = explained (map placed_number (chain_of s p))
explained_if s p false = not_needed

abbrev pub explained_in : List ℕ → (p needs : ℕ) (low : Bool) → Explained
explained_in s p N true = explained_if s p (has p N)
explained_in s p N false = refused 30 0

abbrev pub explained_by : List ℕ → (p : ℕ) → Verdict → Explained
explained_by s p (accepted n τ N) = explained_in s p N (leb p max_privilege)
explained_by s p (rejected c at) = refused c at

unfoldable pub explanation : List ℕ → (p : ℕ) → Explained
explanation s p = explained_by s p (verdict s)
