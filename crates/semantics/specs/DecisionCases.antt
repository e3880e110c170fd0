-- What a run lists of what it decides, 02, W12: for each kind of decision a term that tells, in one table that one theorem proves by computation, for both
-- access controls.
use Rattle.std.specs.Prelude.{Bool, true, false, List, [], ◌∷◌, map, ◌≡◌, refl, ℕ}
use Rattle.std.proofs.Math.Option.{Option, none, some}
use Rattle.privileges.specs.Sets.{has, meet, union, insert}
use Rattle.program.specs.Terms.{sum, Term, boolean, number, variable, letrec, call, check, enable, sign, test, binary, post}
use Rattle.traces.specs.Traces.{Event}
use Rattle.semantics.specs.Domains.{standard}
use Rattle.semantics.specs.Values.{empty, empty_log, budget, Result}
use Rattle.semantics.specs.Meaning.{traced, eval_with, apply, eval}
use Rattle.semantics.specs.Access.{frame, privs, lazy_control, rights, add_authorised, eager_control}
use Rattle.semantics.specs.Runs.{ground_num, Outcome, ended, stopped, outcome, left}
use Rattle.semantics.specs.Recording.{decided_in}

-- every principal may use privilege 1
abbrev authority : ℕ → ℕ
authority n = 2

-- a row: a term, run with checks in force or passed over, in a state that grants 1 or not, with so many places for posts; how it ends and what it lists
pub data Case : Type 0 where
  running : (enforce grants : Bool) (room : ℕ) → Term → Outcome → List Event → Case

pub data Observed : Type 0 where
  observing : Outcome → List Event → Observed

abbrev pub due : Case → Observed
due (running enforce g room c o es) = observing o es

abbrev observed : Result → Observed
observed x = observing (outcome 0 x) (decided_in (left x))

abbrev enabled : Bool → ℕ
enabled true = 2
enabled false = 0

pub eagerly : Case → Observed
eagerly (running enforce g room c o es) =
    observed
    (eval standard (eager_control authority) (traced enforce) 9 c (rights 0 (privs authority (frame 0 (enabled g) ∷ []))) empty (budget 9 9 room empty_log))

pub lazily : Case → Observed
lazily (running enforce g room c o es) =
    observed (eval standard (lazy_control authority) (traced enforce) 9 c (frame 0 (enabled g) ∷ []) empty (budget 9 9 room empty_log))

-- an event of privilege 1
abbrev granted : (at : ℕ) → Event
granted at = record { term = at; privilege = 1; decided = true }

abbrev denied : (at : ℕ) → Event
denied at = record { term = at; privilege = 1; decided = false }

-- a check, a test, a post on channel 3 with a guard or without, and a function whose body checks, bound around a term
abbrev checking : Term
checking = check 1 1 (number 0 7)

abbrev testing : Term
testing = test 2 1 (number 0 7) (number 1 8)

abbrev posting : (guard : Option ℕ) (inner : Term) → Term
posting g c = post 2 3 g c

abbrev with_checker : (rest : Term) → Term
with_checker rest = letrec 19 2 (sign 3 0 (check 2 1 (number 1 7))) rest

abbrev calling : Term
calling = call 6 (variable 4 0) (number 5 0)

abbrev signing : Term → Term
signing c = sign 20 0 c

abbrev giving : ℕ → Outcome
giving n = ended (ground_num n)

pub cases : List Case
cases =
    -- a check, granted and refused: it is listed before 17
    running true true 9 (signing checking) (giving 7) (granted 1 ∷ [])
    ∷ running true false 9 (signing checking) (stopped 17 1) (denied 1 ∷ [])
    -- passed over, it decides nothing
    ∷ running false true 9 (signing checking) (giving 7) []
    ∷ running false false 9 (signing checking) (giving 7) []
    -- a test decides always
    ∷ running true true 9 (signing testing) (giving 7) (granted 2 ∷ [])
    ∷ running true false 9 (signing testing) (giving 8) (denied 2 ∷ [])
    ∷ running false true 9 (signing testing) (giving 7) (granted 2 ∷ [])
    ∷ running false false 9 (signing testing) (giving 8) (denied 2 ∷ [])
    -- a guard, granted and refused: before 17, and before 22
    ∷ running true true 9 (signing (posting (some 1) (number 0 7))) (giving 7) (granted 2 ∷ [])
    ∷ running true false 9 (signing (posting (some 1) (number 0 7))) (stopped 17 2) (denied 2 ∷ [])
    ∷ running true true 0 (signing (posting (some 1) (number 0 7))) (stopped 22 2) (granted 2 ∷ [])
    -- passed over; a post without a guard
    ∷ running false false 9 (signing (posting (some 1) (number 0 7))) (giving 7) []
    ∷ running true false 9 (signing (posting none (number 0 7))) (giving 7) []
    -- "after 18": what is no number is not posted, and no guard is decided
    ∷ running true true 9 (signing (posting (some 1) (boolean 0 true))) (stopped 18 2) []
    -- "in the order met": outer terms before inner ones, but a guard after its number; left before right
    ∷ running true true 9 (signing (test 4 1 (posting (some 1) checking) (number 3 8))) (giving 7) (granted 4 ∷ granted 1 ∷ granted 2 ∷ [])
    ∷ running false true 9 (signing (test 4 1 (posting (some 1) checking) (number 3 8))) (giving 7) (granted 4 ∷ [])
    ∷ running true true 9 (signing (binary 5 sum testing checking)) (giving 14) (granted 2 ∷ granted 1 ∷ [])
    -- a refused check ends the list with the run
    ∷ running true false 9 (signing (binary 5 sum testing (binary 3 sum checking testing))) (stopped 17 1) (denied 2 ∷ denied 1 ∷ [])
    -- a body's check as often as it runs, each by what is granted then
    ∷ running true true 9 (signing (with_checker (binary 9 sum calling calling))) (giving 14) (granted 2 ∷ granted 2 ∷ [])
    ∷ running true false 9 (signing (with_checker (binary 9 sum (enable 7 1 calling) calling))) (stopped 17 2) (granted 2 ∷ denied 2 ∷ [])
    ∷ []

pub record Listed : Type 0 where
  pub by_eager : map eagerly cases ≡ map due cases
  pub by_lazy : map lazily cases ≡ map due cases

pub listed : Listed
unfolding cases eagerly lazily eval apply eval_with add_authorised has meet union insert
listed = record { by_eager = refl; by_lazy = refl }
