-- What the contract of `checker::infer::infer` says: the judgement of one term of a sheet, under given bindings and a given principal.
use Rattle.std.specs.Prelude.{List, [], ◌∷◌, ℕ, zero, suc, ◌+◌, ◌<◌, ◌≤◌, max, get_or, Result, Ok, Err}
use Rattle.program.specs.Limits.{max_nesting}
use Rattle.program.specs.Layout.{principals, terms}
use Rattle.program.specs.Terms.{Term, boolean, number, variable, function, letrec, call, if, check, enable, sign, test, binary, post, tree}
use Rattle.program.specs.declared.records.Counts.{Counts}
use Rattle.typing.specs.Checking.{Judgement, typed, fault}
use Rattle.typing.specs.Answers.{fault_cause, fault_place}
use Rattle.typing.specs.declared.answer.Fault.{Fault}
use Rattle.typing.specs.declared.answer.Typed.{Typed}
use Rattle.accessors.specs.Internal.{FormedSheet}
use Rattle.rules.specs.declared.bindings.Bindings.{Bindings}

abbrev pub inferred_model : Result Typed Fault → Judgement
inferred_model (Ok x) = typed x.ty x.needs
inferred_model (Err f) = fault (fault_cause f) (fault_place f)

-- the types of the bindings, the nearest first
abbrev pub last_first : List ℕ → (count : ℕ) → List ℕ
last_first l zero = []
last_first l (suc k) = get_or l k 0 ∷ last_first l k

abbrev pub context : Bindings → List ℕ
context b = last_first b.types b.len

-- how many bindings judging a term adds; of a term of a readable sheet it is less than the term's height (Laws/Room.antt)
abbrev pub binding_depth : Term → ℕ
binding_depth (boolean at b) = 0
binding_depth (number at n) = 0
binding_depth (variable at i) = 0
binding_depth (function at ty body) = 1 + binding_depth body
binding_depth (letrec at ty body rest) = max (2 + binding_depth body) (1 + binding_depth rest)
binding_depth (call at f a) = max (binding_depth f) (binding_depth a)
binding_depth (if at c y o) = max (binding_depth c) (max (binding_depth y) (binding_depth o))
binding_depth (check at p c) = binding_depth c
binding_depth (enable at p c) = binding_depth c
binding_depth (sign at n c) = binding_depth c
binding_depth (test at p y o) = max (binding_depth y) (binding_depth o)
binding_depth (binary at op a b) = max (binding_depth a) (binding_depth b)
binding_depth (post at ch g c) = binding_depth c

unfoldable pub binding_depth_at : List ℕ → (t : ℕ) → ℕ
binding_depth_at s t = binding_depth (tree s t)

-- what judging term t asks
pub record Ready (s : List ℕ) (c : Counts) (t : ℕ) (b : Bindings) (n : ℕ) : Type 0 where
  pub sheet : FormedSheet s c
  pub inside : t < terms s
  pub principal : n < principals s
  pub fits : b.len + binding_depth_at s t ≤ max_nesting
