-- How many sums and differences an evaluation saturates and how many decisions it lists: together at most as many as its term has terms, and for each call
-- that it makes as many as a body has. So what is saturated and listed, with a body's terms for each call that is left, grows by at most the size of the term.
use Rattle.std.specs.Prelude.{Bool, false, List, ◌≡◌, length}
use Rattle.std.proofs.Math.Bool.{true}
use Rattle.std.proofs.Math.Option.{Option, none, some}
use Rattle.std.proofs.Math.Path.{refl}
use Rattle.std.proofs.Common.{ap, suc-mul, arith}
use Prim.Native.Nat.{ℕ, zero, suc, ◌+◌, ◌*◌, ◌≤◌}
use Rattle.program.specs.Limits.{max_terms}
use Rattle.program.specs.Layout.{authority}
use Rattle.program.specs.Terms.{Op, Term, boolean, number, variable, function, letrec, call, if, check, enable, sign, test, binary, post, program, size, Every}
use Rattle.program.proofs.Laws.Readable.{WellFormed}
use Rattle.program.proofs.Laws.Trees.{every_here}
use Rattle.program.proofs.Laws.Sizes.{sizes_most}
use Rattle.traces.specs.Traces.{Event}
use Rattle.semantics.specs.Domains.{standard, saturates}
use Rattle.semantics.specs.Values.{Value, bool, num, closure, Env, empty, bind, lookup, entered, Log, log_saturated, Budget, budget, Result, ends, stops}
use Rattle.semantics.specs.Meaning.{Control, Mode, ◌then◌, choose, variable_value, branch, compute, append_post, note, post_value, take_cell, begin_call, too_deep, enter, passes, event_if, lists_checks, Application, eval_with, apply, eval}
use Rattle.semantics.specs.Access.{privs, lazy_control, rights, eager_control}
use Rattle.semantics.specs.Runs.{Runner, eager, lazy, Request, Sizes, stack, initial, evaluation_in, left}
use Rattle.semantics.proofs.Laws.Bodies.{EveryBody, EveryBodyIn, Bodies, bodies_end, entered_bodies, BodiesAll, eval_bodies, apply_bodies}

abbrev pub saturated_in : Budget → ℕ
saturated_in (budget c d r l) = l.saturated

-- M is the size of the largest body
module _ (M : ℕ) where
  abbrev SmallTerm : Term → Type 0
  SmallTerm c = size c ≤ M

  abbrev load : Budget → ℕ
  load (budget c d r l) = l.saturated + length l.decisions + c * M

  -- a result that saturates and lists at most n, but for what its calls do
  record WithinLoad (n : ℕ) (u : Budget) (x : Result) : Type 0 where
    most : load (left x) ≤ load u + n

  within_none : (n : ℕ) (u : Budget) {x : Result} → left x ≡ u → WithinLoad n u x
  within_none n u {x} e = let q : load (left x) ≡ load u = ap load e in record { most = omega (arith, q) }

  within_more : {m n : ℕ} {u : Budget} {x : Result} → m ≤ n → WithinLoad m u x → WithinLoad n u x
  within_more l h = record { most = omega (arith, l, h.most) }

  within_then : (m n : ℕ) (u : Budget) (x : Result) (k : Value → Budget → Result) → WithinLoad m u x → Bodies SmallTerm x
      → ((v : Value) (w : Budget) → EveryBody SmallTerm v → WithinLoad n w (k v w)) → WithinLoad (m + n) u (x then k)
  within_then m n u (ends v w) k h (bodies_end b) f = record { most = omega (arith, h.most, (f v w b).most) }
  within_then m n u (stops c at w) k h b f = record { most = omega (arith, h.most) }

  within_choose : (n : ℕ) (b : Bool) (y z : Budget → Result) (u : Budget) → WithinLoad n u (y u) → WithinLoad n u (z u) → WithinLoad n u (choose b y z u)
  within_choose n true y z u hy hz = hy
  within_choose n false y z u hy hz = hz

  within_found : (n at i : ℕ) (e : Env) (u : Budget) → WithinLoad n u (variable_value at (lookup e i) u)
  within_found n at i empty u = within_none n u refl
  within_found n at zero (bind v e) u = within_none n u refl
  within_found n at (suc i) (bind v e) u = within_found n at i e u

  within_branch : (n at : ℕ) (v : Value) (y z : Budget → Result) (u : Budget) → WithinLoad n u (y u) → WithinLoad n u (z u) → WithinLoad n u (branch at v y z u)
  within_branch n at (bool b) y z u hy hz = within_choose n b y z u hy hz
  within_branch n at (num m) y z u hy hz = within_none n u refl
  within_branch n at (closure r ty body env) y z u hy hz = within_none n u refl

  -- an operation counts itself at most
  one_more : (b : Bool) (l : Log) → (log_saturated b l).saturated ≤ l.saturated + 1
  one_more true l = omega arith
  one_more false l = omega arith

  within_compute : (at : ℕ) (op : Op) (v w : Value) (u : Budget) → WithinLoad 1 u (compute at op v w u)
  within_compute at op (num m) (num n) (budget c d r l) = record { most = omega (arith, one_more (saturates op m n) l) }
  within_compute at op (num m) (bool b) u = within_none 1 u refl
  within_compute at op (num m) (closure r ty body env) u = within_none 1 u refl
  within_compute at op (bool b) w u = within_none 1 u refl
  within_compute at op (closure r ty body env) w u = within_none 1 u refl

  within_append : (n at ch m : ℕ) (u : Budget) → WithinLoad n u (append_post at ch m u)
  within_append n at ch m (budget c d zero l) = within_none n (budget c d zero l) refl
  within_append n at ch m (budget c d (suc r) l) = record { most = omega arith }

  -- a decision lists itself at most
  within_noted : (n : ℕ) (o : Option Event) (u : Budget) {x : Result} → WithinLoad n (note o u) x → WithinLoad (n + 1) u x
  within_noted n none u h = within_more (omega arith) h
  within_noted n (some e) (budget c d r l) h = record { most = omega (arith, h.most) }

  within_post : (at ch : ℕ) (allowed : Bool) (o : Option Event) (v : Value) (u : Budget) → WithinLoad 1 u (post_value at ch allowed o v u)
  within_post at ch allowed o (num m) u =
      within_noted 0 o u (within_choose 0 allowed _ _ (note o u) (within_append 0 at ch m (note o u)) (within_none 0 (note o u) refl))
  within_post at ch allowed o (bool b) u = within_none 1 u refl
  within_post at ch allowed o (closure r ty body env) u = within_none 1 u refl

  within_cell : (n at : ℕ) (k : Budget → Result) → ((w : Budget) → WithinLoad n w (k w)) → (u : Budget) → WithinLoad n u (take_cell at k u)
  within_cell n at k h (budget c zero r l) = within_none n (budget c zero r l) refl
  within_cell n at k h (budget c (suc d) r l) = record { most = (h (budget c d r l)).most }

  -- the call that is taken pays for the body
  within_begin : (n at : ℕ) → n ≤ M → (k : Budget → Result) → ((w : Budget) → WithinLoad n w (k w)) → (u : Budget) → WithinLoad 0 u (begin_call at k u)
  within_begin n at s k h (budget zero d r l) = within_none 0 (budget zero d r l) refl
  within_begin n at s k h (budget (suc c) zero r l) = within_none 0 (budget (suc c) zero r l) refl
  within_begin n at s k h (budget (suc c) (suc d) r l) = record { most = omega (arith, s, (h (budget c d r l)).most, suc-mul c M) }

  within_deep : (n at : ℕ) (v : Value) (u : Budget) → WithinLoad n u (too_deep at v u)
  within_deep n at (closure r ty body env) u = within_none n u refl
  within_deep n at (bool b) u = within_none n u refl
  within_deep n at (num m) u = within_none n u refl

  within_enter : (at : ℕ) (v w : Value) (run : Term → Env → Budget → Result)
      → ((c : Term) (e : Env) (u : Budget) → Every SmallTerm c → EveryBodyIn SmallTerm e → WithinLoad (size c) u (run c e u)) → (u : Budget)
      → EveryBody SmallTerm v → EveryBody SmallTerm w → WithinLoad 0 u (enter at v w run u)
  within_enter at (closure r ty body env) w run h u hv hw =
      within_begin (size body) at (every_here SmallTerm body hv.0) _
      (λ x. h body (entered r ty body env w) x hv.0 (entered_bodies SmallTerm r ty body env w hv.0 hv.1 hw)) u
  within_enter at (bool b) w run h u hv hw = within_none 0 u refl
  within_enter at (num n) w run h u hv hw = within_none 0 u refl

  -- ---- evaluations
  module _ (X : Control) (mode : Mode) where
    abbrev WithinAll : Application standard X → Type 0
    WithinAll f = (at : ℕ) (v w : Value) (st : X.State) (u : Budget) → EveryBody SmallTerm v → EveryBody SmallTerm w → WithinLoad 0 u (f at v w st u)

    module _ (f : Application standard X) (a : BodiesAll SmallTerm standard X mode f) (g : WithinAll f) where
      eval_within : (c : Term) → Every SmallTerm c → (st : X.State) (e : Env) (u : Budget) → EveryBodyIn SmallTerm e
          → WithinLoad (size c) u (eval_with standard X mode f c st e u)
      unfolding eval_with
      eval_within (boolean at b) k st e u h = within_none 1 u refl
      eval_within (number at n) k st e u h = within_none 1 u refl
      eval_within (variable at i) k st e u h = within_found 1 at i e u
      eval_within (function at ty body) k st e u h = within_none _ u refl
      eval_within (letrec at ty body rest) k st e u h =
          within_cell _ at _
          (λ w. within_more (omega arith) (eval_within rest k.2 st (bind (closure true ty body e) e) w ((k.1, h), h))) u
      eval_within (call at c d) k st e u h =
          within_more (omega arith)
          (within_then (size c) (size d) u _ _ (eval_within c k.1 st e u h) (eval_bodies SmallTerm standard X mode f a c k.1 st e u h)
          (λ v w hv. within_more (omega arith)
          (within_then (size d) 0 w _ _ (eval_within d k.2 st e w h) (eval_bodies SmallTerm standard X mode f a d k.2 st e w h)
          (λ x y hx. g at v x st y hv hx))))
      eval_within (if at c y n) k st e u h =
          within_more (omega arith)
          (within_then (size c) (size y + size n) u _ _ (eval_within c k.1 st e u h) (eval_bodies SmallTerm standard X mode f a c k.1 st e u h)
          (λ v w hv. within_branch _ at v _ _ w (within_more (omega arith) (eval_within y k.2 st e w h))
          (within_more (omega arith) (eval_within n k.3 st e w h))))
      eval_within (check at p c) k st e u h =
          let o = event_if (lists_checks mode) at (X.grants st) (some p) in
          within_more (omega arith)
          (within_noted (size c) o u
          (within_choose (size c) (passes mode.enforce (X.grants st p)) _ _ (note o u) (eval_within c k.1 st e (note o u) h)
          (within_none (size c) (note o u) refl)))
      eval_within (enable at p c) k st e u h = within_more (omega arith) (eval_within c k.1 (X.enables p st) e u h)
      eval_within (sign at n c) k st e u h = within_more (omega arith) (eval_within c k.1 (X.signs n st) e u h)
      eval_within (test at p y n) k st e u h =
          let o = event_if mode.tracing at (X.grants st) (some p) in
          within_more (omega arith)
          (within_noted (size y + size n) o u
          (within_choose (size y + size n) (X.grants st p) _ _ (note o u) (within_more (omega arith) (eval_within y k.1 st e (note o u) h))
          (within_more (omega arith) (eval_within n k.2 st e (note o u) h))))
      eval_within (binary at op c d) k st e u h =
          within_more (omega arith)
          (within_then (size c) (size d + 1) u _ _ (eval_within c k.1 st e u h) (eval_bodies SmallTerm standard X mode f a c k.1 st e u h)
          (λ v w hv. within_then (size d) 1 w _ _ (eval_within d k.2 st e w h) (eval_bodies SmallTerm standard X mode f a d k.2 st e w h)
          (λ x y hx. within_compute at op v x y)))
      eval_within (post at ch p c) k st e u h =
          within_more (omega arith)
          (within_then (size c) 1 u _ _ (eval_within c k.1 st e u h) (eval_bodies SmallTerm standard X mode f a c k.1 st e u h)
          (λ v w hv. within_post at ch _ _ v w))

    apply_within : (k : ℕ) → WithinAll (apply standard X mode k)
    unfolding apply
    apply_within zero at v w st u hv hw = within_deep 0 at v u
    apply_within (suc k) at v w st u hv hw =
        within_enter at v w _
        (λ body e x kb he. eval_within (apply standard X mode k) (apply_bodies SmallTerm standard X mode k) (apply_within k) body kb st e x he) u hv hw

    within : (depth : ℕ) (c : Term) → Every SmallTerm c → (st : X.State) (e : Env) (u : Budget) → EveryBodyIn SmallTerm e
        → WithinLoad (size c) u (eval standard X mode depth c st e u)
    unfolding eval
    within k c h st e u b = eval_within (apply standard X mode k) (apply_bodies SmallTerm standard X mode k) (apply_within k) c h st e u b

-- ---- the program of a readable sheet
abbrev pub listed_in : Budget → ℕ
listed_in (budget c d r l) = length l.decisions

load_most : (M : ℕ) (u : Budget) → saturated_in u + listed_in u ≤ load M u
load_most M (budget c d r l) = omega arith

pub evaluation_load : (s : List ℕ) → WellFormed s → (mode : Mode) (r : Runner) (q : Request) (z : Sizes)
    → saturated_in (left (evaluation_in mode r s q z)) + listed_in (left (evaluation_in mode r s q z)) ≤ q.calls * max_terms + max_terms
evaluation_load s w mode eager q z =
    let small = sizes_most s w in
    let h = within max_terms (eager_control (authority s)) mode q.depth (program s) small
    (rights 0 (privs (authority s) (stack q.start))) empty (initial q z) tt in
    omega (arith, h.most, every_here (SmallTerm max_terms) (program s) small, load_most max_terms (left (evaluation_in mode eager s q z)))
evaluation_load s w mode lazy q z =
    let small = sizes_most s w in
    let h = within max_terms (lazy_control (authority s)) mode q.depth (program s) small (stack q.start) empty (initial q z) tt in
    omega (arith, h.most, every_here (SmallTerm max_terms) (program s) small, load_most max_terms (left (evaluation_in mode lazy s q z)))
