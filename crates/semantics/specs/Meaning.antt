-- The meaning of a term: a definitional interpreter, for any domain of values and any access control. 003's Figures 2 and 4 are two instances, by the access
-- controls of Access.antt over numbers and booleans, so that each clause below is one clause of both figures. Numbers 17 to 22 are 01's stops.
use Rattle.std.specs.Prelude.{Bool, true, false, ◌&&◌, ℕ, zero, suc}
use Rattle.std.proofs.Math.Option.{Option, none, some}
use Rattle.program.specs.Terms.{Op, sum, difference, less, Term, boolean, number, variable, function, letrec, call, if, check, enable, sign, test, binary, post}
use Rattle.traces.specs.Traces.{Event}
use Rattle.semantics.specs.Domains.{Domain, Interpretation}
use Rattle.semantics.specs.Values.{ValueOf, bool, num, closure, EnvOf, bind, lookup, entered, log_post, log_saturated, log_decision, Budget, budget, ResultOf, ends, stops}

-- what access control keeps, how a sign and an enable change it, and what it grants
pub record Control : Type 1 where
  pub State : Type 0
  pub signs : (n : ℕ) → State → State
  pub enables : (p : ℕ) → State → State
  pub grants : State → (p : ℕ) → Bool

-- how a run goes: whether its checks and guards are in force, and whether it lists what it decides (02, W12)
pub record Mode : Type 0 where
  pub enforce : Bool
  pub tracing : Bool

abbrev pub plain : (enforce : Bool) → Mode
plain b = record { enforce = b; tracing = false }

abbrev pub traced : (enforce : Bool) → Mode
traced b = record { enforce = b; tracing = true }

-- 003's let: a stop is the result of the whole
infixl 20 ◌then◌
abbrev pub ◌then◌ : {D : Domain} → ResultOf D → (ValueOf D → Budget → ResultOf D) → ResultOf D
◌then◌ (ends v u) k = k v u
◌then◌ (stops c at u) k = stops c at u

abbrev pub choose : {D : Domain} → Bool → (onTrue onFalse : Budget → ResultOf D) → Budget → ResultOf D
choose true y n u = y u
choose false y n u = n u

-- "18 stuck: unbound variable, wrong kind of value, or a root that gives a function."
abbrev pub variable_value : {D : Domain} (at : ℕ) → Option (ValueOf D) → Budget → ResultOf D
variable_value at (some v) u = ends v u
variable_value at none u = stops 18 at u

-- 02, W14: "An if with an undecided condition stops by 36 at the if"
abbrev pub decided : {D : Domain} (at : ℕ) → Option Bool → (onTrue onFalse : Budget → ResultOf D) → Budget → ResultOf D
decided at (some b) y n u = choose b y n u
decided at none y n u = stops 36 at u

-- the branch that a truth value picks
abbrev pub branch : {D : Domain} (at : ℕ) → ValueOf D → (onTrue onFalse : Budget → ResultOf D) → Budget → ResultOf D
branch {D} at (bool b) y n u = decided at (D.decide b) y n u
branch at (num m) y n u = stops 18 at u
branch at (closure r ty body env) y n u = stops 18 at u

abbrev pub operate : {D : Domain} → Op → (m n : D.Number) → ValueOf D
operate {D} sum m n = num (D.sum m n)
operate {D} difference m n = num (D.difference m n)
operate {D} less m n = bool (D.less m n)

abbrev pub count_saturated : Bool → Budget → Budget
count_saturated b (budget c d r l) = budget c d r (log_saturated b l)

-- "The kinds of values are looked at when all operands of a term have one"
abbrev pub compute : {D : Domain} (at : ℕ) → Op → (left right : ValueOf D) → Budget → ResultOf D
compute {D} at op (num m) (num n) u = ends (operate op m n) (count_saturated (D.saturates op m n) u)
compute at op (num m) (bool b) u = stops 18 at u
compute at op (num m) (closure r ty body env) u = stops 18 at u
compute at op (bool b) w u = stops 18 at u
compute at op (closure r ty body env) w u = stops 18 at u

-- "A post appends its number and yields it." "22 no place for a post".
abbrev pub append_post : {D : Domain} (at channel : ℕ) (number : D.Number) → Budget → ResultOf D
append_post at ch n (budget c d zero l) = stops 22 at (budget c d zero l)
append_post {D} at ch n (budget c d (suc r) l) = ends (num n) (budget c d r (log_post (D.entry ch n) l))

-- 02, W12: "each check, test and guard they decide as term, privilege and yes or no, in the order met"; a decision that is not listed is none
abbrev pub note : Option Event → Budget → Budget
note none u = u
note (some e) (budget c d r l) = budget c d r (log_decision e l)

-- A post of a value, whose guard passes or not. 02, W8: "it is refused by 17 after its number is worked out, after 18 and before 22". The guard is decided
-- when there is a number, and listed before 17.
abbrev pub post_value : {D : Domain} (at channel : ℕ) (allowed : Bool) (decision : Option Event) → ValueOf D → Budget → ResultOf D
post_value at ch allowed e (num n) u = choose allowed (λ u₁. append_post at ch n u₁) (λ u₁. stops 17 at u₁) (note e u)
post_value at ch allowed e (bool b) u = stops 18 at u
post_value at ch allowed e (closure r ty body env) u = stops 18 at u

-- "a recursive binder one" cell; "21 no cell … also at a recursive binder"
abbrev pub take_cell : {D : Domain} (at : ℕ) → (Budget → ResultOf D) → Budget → ResultOf D
take_cell at k (budget c zero r l) = stops 21 at (budget c zero r l)
take_cell at k (budget c (suc d) r l) = k (budget c d r l)

-- A call takes one of the calls and one cell: "20 calls spent, then 21 no cell". "A call, cell or post that a stop prevents isn't counted."
abbrev pub begin_call : {D : Domain} (at : ℕ) → (Budget → ResultOf D) → Budget → ResultOf D
begin_call at k (budget zero d r l) = stops 20 at (budget zero d r l)
begin_call at k (budget (suc c) zero r l) = stops 21 at (budget (suc c) zero r l)
begin_call at k (budget (suc c) (suc d) r l) = k (budget c d r l)

-- a call where no more may be open: "calling a non-function is stuck after its argument, before 19"; "19 open calls would pass the allowance, then 20"
abbrev pub too_deep : {D : Domain} (at : ℕ) → (fun : ValueOf D) → Budget → ResultOf D
too_deep at (closure r ty body env) u = stops 19 at u
too_deep at (bool b) u = stops 18 at u
too_deep at (num n) u = stops 18 at u

-- a call where another may be open; `run` is what becomes of the body
abbrev pub enter : {D : Domain} (at : ℕ) → (fun arg : ValueOf D) → (run : Term → EnvOf D → Budget → ResultOf D) → Budget → ResultOf D
enter at (closure r ty body env) w run u = begin_call at (λ u'. run body (entered r ty body env w) u') u
enter at (bool b) w run u = stops 18 at u
enter at (num n) w run u = stops 18 at u

-- "'Passed over' means that a check is read as its inner term."
abbrev pub passes : (enforce granted : Bool) → Bool
passes true g = g
passes false g = true

-- 02, W8: "A run with checks passed over passes over guards too"; a post without a guard is not refused
abbrev pub guard_passes : (enforce : Bool) (grants : ℕ → Bool) (guard : Option ℕ) → Bool
guard_passes enforce grants none = true
guard_passes enforce grants (some p) = passes enforce (grants p)

-- What is listed of a decision at a term, about a privilege if there is one. A test is decided always; a check or guard where it is in force, since one that
-- is passed over decides nothing.
abbrev pub event_if : (listed : Bool) (at : ℕ) (grants : ℕ → Bool) (privilege : Option ℕ) → Option Event
event_if true at grants (some p) = some record { term = at; privilege = p; decided = grants p }
event_if true at grants none = none
event_if false at grants p = none

abbrev pub lists_checks : Mode → Bool
lists_checks M = M.tracing && M.enforce

module _ (I : Interpretation) (X : Control) where
  abbrev pub Evaluation : Type 0
  Evaluation = X.State → EnvOf I.domain → Budget → ResultOf I.domain

  -- a call at a term, of a function and an argument
  abbrev pub Application : Type 0
  Application = (at : ℕ) (fun arg : ValueOf I.domain) → X.State → Budget → ResultOf I.domain

  module _ (M : Mode) where
    -- "Evaluation goes left to right."
    unfoldable pub eval_with : Application → Term → Evaluation
    -- Figures 2 and 4: true, x
    eval_with app (boolean at b) st env u = ends (bool (I.domain.truth b)) u
    eval_with app (number at n) st env u = ends (num (I.literal at n)) u
    eval_with app (variable at i) st env u = variable_value at (lookup env i) u
    -- fun: the body will run with the caller's state, not with this one
    eval_with app (function at ty body) st env u = ends (closure false ty body env) u
    -- letrec
    eval_with app (letrec at ty body rest) st env u =
        take_cell at (λ u₁. eval_with app rest st (bind (closure true ty body env) env) u₁) u
    -- e1 e2: "At a call the function is evaluated, then the argument, then the body, in the caller's stack or P."
    eval_with app (call at f a) st env u =
        eval_with app f st env u then λ v u₁. eval_with app a st env u₁ then λ w u₂. app at v w st u₂
    -- if
    eval_with app (if at c y n) st env u =
        eval_with app c st env u then λ v u₁. branch at v (λ u₂. eval_with app y st env u₂) (λ u₂. eval_with app n st env u₂) u₁
    -- check p for e: "Check refuses, before its inner term, if p isn't granted", by 17
    eval_with app (check at p c) st env u =
        choose (passes M.enforce (X.grants st p)) (λ u₁. eval_with app c st env u₁) (λ u₁. stops 17 at u₁)
        (note (event_if (lists_checks M) at (X.grants st) (some p)) u)
    -- dopriv p in e, and signs n e: "both are undone when their term ends", since what follows has the old state
    eval_with app (enable at p c) st env u = eval_with app c (X.enables p st) env u
    eval_with app (sign at n c) st env u = eval_with app c (X.signs n st) env u
    -- test p then e1 else e2: "test chooses by it", also where checks are passed over
    eval_with app (test at p y n) st env u =
        choose (X.grants st p) (λ u₁. eval_with app y st env u₁) (λ u₁. eval_with app n st env u₁) (note (event_if M.tracing at (X.grants st) (some p)) u)
    eval_with app (binary at op a b) st env u =
        eval_with app a st env u then λ v u₁. eval_with app b st env u₁ then λ w u₂. compute at op v w u₂
    -- the guard is decided in the state of the post, when its number is worked out
    eval_with app (post at ch g c) st env u =
        eval_with app c st env u
        then λ v u₁. post_value at ch (guard_passes M.enforce (X.grants st) g) (event_if (lists_checks M) at (X.grants st) g) v u₁

    -- A call where so many more calls may be open. "A call is open while its body runs."
    unfoldable pub apply : (depth : ℕ) → Application
    apply zero at v w st u = too_deep at v u
    apply (suc k) at v w st u = enter at v w (λ body env u₁. eval_with (λ at' v' w' st' u'. apply k at' v' w' st' u') body st env u₁) u

    unfoldable pub eval : (depth : ℕ) → Term → Evaluation
    eval k = eval_with (apply k)
