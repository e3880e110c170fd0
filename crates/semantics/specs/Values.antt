-- What a run holds: values and environments, what is left of its allowances, and the result of a term.
use Rattle.std.specs.Prelude.{Bool, true, false, cond, List, [], ◌∷◌, ℕ, zero, suc}
use Rattle.std.proofs.Math.Option.{Option, none, some}
use Rattle.program.specs.Terms.{Term}
use Rattle.traces.specs.Traces.{Event}
use Rattle.semantics.specs.Domains.{Domain, single}

-- Over any domain. A closure is a function type's number, a body and the environment where it was made. It is recursive if a letrec made it: then its body
-- also sees the function itself.
mutual
  pub data ValueOf (D : Domain) : Type 0 where
    bool : D.Truth → ValueOf D
    num : D.Number → ValueOf D
    closure : (recursive : Bool) (ty : ℕ) (body : Term) (env : EnvOf D) → ValueOf D

  pub data EnvOf (D : Domain) : Type 0 where
    empty : EnvOf D
    bind : ValueOf D → EnvOf D → EnvOf D

-- 01's
abbrev pub Value : Type 0
Value = ValueOf single

abbrev pub Env : Type 0
Env = EnvOf single

abbrev pub lookup : {D : Domain} → EnvOf D → (i : ℕ) → Option (ValueOf D)
lookup empty i = none
lookup (bind v e) zero = some v
lookup (bind v e) (suc i) = lookup e i

-- The environment of a called body. "In a body of kind 3 variable 0 is the argument. In a body of kind 4 variable 0 is the argument and 1 the function".
abbrev pub entered : {D : Domain} (recursive : Bool) (ty : ℕ) (body : Term) (env : EnvOf D) (arg : ValueOf D) → EnvOf D
entered true ty body env w = bind w (bind (closure true ty body env) env)
entered false ty body env w = bind w env

-- What was made so far: the posts, the latest first; 02, W10: "Both runners count the held ones", the sums and differences that were saturated; and 02, W12:
-- the checks, tests and guards that were decided, the latest first, where a run lists them.
pub record Log : Type 0 where
  pub posts : List ℕ
  pub saturated : ℕ
  pub decisions : List Event

abbrev pub empty_log : Log
empty_log = record { posts = []; saturated = 0; decisions = [] }

abbrev pub log_post : (entry : ℕ) → Log → Log
log_post x l = record { posts = x ∷ l.posts; saturated = l.saturated; decisions = l.decisions }

abbrev pub log_saturated : Bool → Log → Log
log_saturated b l = record { posts = l.posts; saturated = cond b (suc l.saturated) l.saturated; decisions = l.decisions }

abbrev pub log_decision : Event → Log → Log
log_decision e l = record { posts = l.posts; saturated = l.saturated; decisions = e ∷ l.decisions }

-- what is left: calls, cells and places for posts; and what was made
pub data Budget : Type 0 where
  budget : (calls cells room : ℕ) (log : Log) → Budget

-- a term ends with a value, or a cause stops it at a term
pub data ResultOf (D : Domain) : Type 0 where
  ends : ValueOf D → Budget → ResultOf D
  stops : (cause at : ℕ) → Budget → ResultOf D

abbrev pub Result : Type 0
Result = ResultOf single
