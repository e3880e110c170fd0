-- Which decisions of a run that lists them are no: where 17 stops it, the last is a no at that term; every other no is of a test.
use Rattle.std.specs.Prelude.{Bool, false, ◌≡◌, refl}
use Rattle.std.proofs.Math.Bool.{true}
use Rattle.std.proofs.Common.{true≢false, ap, ◌∙◌, arith}
use mathlib.Core.List.{List, [], ◌∷◌, ◌++◌, reverse, reverse-cons}
use Rattle.std.proofs.Math.Option.{Option, none, some}
use Prim.Native.Nat.{ℕ, zero, suc}
use Rattle.program.specs.Layout.{authority, guard_of, kind_byte, small, first, second, third}
use Rattle.program.specs.Formats.{Kind, Boolean, Number, Variable, Function, Letrec, Call, If, Check, Enable, Sign, Test, Sum, Difference, Less, Post, kind_of}
use Rattle.program.specs.Terms.{Op, Term, boolean, number, variable, function, letrec, call, if, check, enable, sign, test, binary, post, node, tree_to, program, Every}
use Rattle.program.proofs.Laws.Readable.{WellFormed}
use Rattle.program.proofs.Laws.Trees.{program_every}
use Rattle.traces.specs.Traces.{Event}
use Rattle.semantics.specs.Domains.{standard}
use Rattle.semantics.specs.Values.{Value, bool, num, closure, Env, empty, bind, lookup, entered, Log, log_decision, Budget, budget, Result, ends, stops}
use Rattle.semantics.specs.Meaning.{Control, Mode, traced, ◌then◌, choose, variable_value, branch, compute, append_post, note, post_value, take_cell, begin_call, too_deep, enter, guard_passes, event_if, Application, eval_with, apply, eval}
use Rattle.semantics.specs.Access.{privs, lazy_control, rights, eager_control}
use Rattle.semantics.specs.Runs.{Runner, eager, lazy, Request, Sizes, stack, initial, evaluation_in, stopped, outcome, left}
use Rattle.semantics.specs.Recording.{decided_in}
use Rattle.semantics.proofs.Laws.Bodies.{EveryBody, EveryBodyIn, Bodies, bodies_end, entered_bodies, BodiesAll, eval_bodies, apply_bodies}
use Rattle.semantics.specs.Claims.{Each}
use Rattle.semantics.proofs.Laws.Posts.{each_reversed}
use Rattle.semantics.proofs.Laws.Stops.{ended≢stopped}

-- what is listed of a decision at term `at` about privilege p
abbrev deciding : (at p : ℕ) (yes : Bool) → Event
deciding at p b = record { term = at; privilege = p; decided = b }

-- T are the terms that test
module _ (T : ℕ → Type 0) where
  -- a term is in T if it is a test
  abbrev Tests : Term → Type 0
  Tests (boolean at b) = Unit {0}
  Tests (number at n) = Unit {0}
  Tests (variable at i) = Unit {0}
  Tests (function at ty body) = Unit {0}
  Tests (letrec at ty body rest) = Unit {0}
  Tests (call at f a) = Unit {0}
  Tests (if at c y n) = Unit {0}
  Tests (check at p c) = Unit {0}
  Tests (enable at p c) = Unit {0}
  Tests (sign at n c) = Unit {0}
  Tests (test at p y n) = T at
  Tests (binary at op a b) = Unit {0}
  Tests (post at ch g c) = Unit {0}

  -- a decision after which a run goes on
  abbrev GoesOn : Event → Type 0
  GoesOn e = e.decided ≡ false → T e.term

  abbrev DecisionsPassed : Budget → Type 0
  DecisionsPassed (budget c d r l) = Each GoesOn l.decisions

  data DecisionsAnswered : Result → Type 0 where
    answered_end : {v : Value} {u : Budget} → DecisionsPassed u → DecisionsAnswered (ends v u)
    answered_stop : {c at : ℕ} {u : Budget} → (c ≡ 17 → ⊥) → DecisionsPassed u → DecisionsAnswered (stops c at u)
    answered_no : {at c d r : ℕ} {l : Log} (p : ℕ) → Each GoesOn l.decisions
        → DecisionsAnswered (stops 17 at (budget c d r (log_decision (deciding at p false) l)))

  -- ---- each way of putting results together
  answered_then : (x : Result) (k : Value → Budget → Result) → DecisionsAnswered x → Bodies Tests x
      → ((v : Value) (u : Budget) → EveryBody Tests v → DecisionsPassed u → DecisionsAnswered (k v u)) → DecisionsAnswered (x then k)
  answered_then (ends v u) k (answered_end p) (bodies_end b) f = f v u b p
  answered_then (stops c at u) k h b f = h

  answered_choose : (b : Bool) (y n : Budget → Result) (u : Budget) → DecisionsAnswered (y u) → DecisionsAnswered (n u) → DecisionsAnswered (choose b y n u)
  answered_choose true y n u hy hn = hy
  answered_choose false y n u hy hn = hn

  -- a stop by another cause
  other : (c at : ℕ) (u : Budget) → (c ≡ 17 → ⊥) → DecisionsPassed u → DecisionsAnswered (stops c at u)
  other c at u n p = answered_stop n p

  stuck : (at : ℕ) (u : Budget) → DecisionsPassed u → DecisionsAnswered (stops 18 at u)
  stuck at u p = other 18 at u (λ e. omega (arith, e)) p

  answered_found : (at i : ℕ) (e : Env) (u : Budget) → DecisionsPassed u → DecisionsAnswered (variable_value at (lookup e i) u)
  answered_found at i empty u p = stuck at u p
  answered_found at zero (bind v e) u p = answered_end p
  answered_found at (suc i) (bind v e) u p = answered_found at i e u p

  answered_branch : (at : ℕ) (v : Value) (y n : Budget → Result) (u : Budget) → DecisionsPassed u → DecisionsAnswered (y u) → DecisionsAnswered (n u)
      → DecisionsAnswered (branch at v y n u)
  answered_branch at (bool b) y n u p hy hn = answered_choose b y n u hy hn
  answered_branch at (num m) y n u p hy hn = stuck at u p
  answered_branch at (closure r ty body env) y n u p hy hn = stuck at u p

  answered_compute : (at : ℕ) (op : Op) (v w : Value) (u : Budget) → DecisionsPassed u → DecisionsAnswered (compute at op v w u)
  answered_compute at op (num m) (num n) (budget c d r l) p = answered_end p
  answered_compute at op (num m) (bool b) u p = stuck at u p
  answered_compute at op (num m) (closure r ty body env) u p = stuck at u p
  answered_compute at op (bool b) w u p = stuck at u p
  answered_compute at op (closure r ty body env) w u p = stuck at u p

  answered_append : (at ch n : ℕ) (u : Budget) → DecisionsPassed u → DecisionsAnswered (append_post at ch n u)
  answered_append at ch n (budget c d zero l) p = other 22 at (budget c d zero l) (λ e. omega (arith, e)) p
  answered_append at ch n (budget c d (suc r) l) p = answered_end p

  -- a check or guard: in force it is listed, and its no is the last; passed over it decides nothing
  answered_query : (enforce : Bool) (at : ℕ) (grants : ℕ → Bool) (g : Option ℕ) (y : Budget → Result)
      → ((w : Budget) → DecisionsPassed w → DecisionsAnswered (y w))
      → (u : Budget) → DecisionsPassed u
      → DecisionsAnswered (choose (guard_passes enforce grants g) y (λ w. stops 17 at w) (note (event_if enforce at grants g) u))
  answered_query false at grants none y h u p = h u p
  answered_query false at grants (some x) y h u p = h u p
  answered_query true at grants none y h u p = h u p
  answered_query true at grants (some x) y h (budget c d r l) p = go (grants x)
    where
      go : (b : Bool) → DecisionsAnswered (choose b y (λ w. stops 17 at w) (budget c d r (log_decision (deciding at x b) l)))
      go true = h (budget c d r (log_decision (deciding at x true) l)) (λ e. absurd (true≢false e), p)
      go false = answered_no x p

  answered_post : (enforce : Bool) (at ch : ℕ) (grants : ℕ → Bool) (g : Option ℕ) (v : Value) (u : Budget) → DecisionsPassed u
      → DecisionsAnswered (post_value at ch (guard_passes enforce grants g) (event_if enforce at grants g) v u)
  answered_post enforce at ch grants g (num n) u p = answered_query enforce at grants g _ (λ w q. answered_append at ch n w q) u p
  answered_post enforce at ch grants g (bool b) u p = stuck at u p
  answered_post enforce at ch grants g (closure r ty body env) u p = stuck at u p

  tested : (at p : ℕ) (b : Bool) → T at → (u : Budget) → DecisionsPassed u → DecisionsPassed (note (some (deciding at p b)) u)
  tested at p b t (budget c d r l) h = (λ e. t, h)

  answered_cell : (at : ℕ) (k : Budget → Result) → ((u : Budget) → DecisionsPassed u → DecisionsAnswered (k u)) → (u : Budget) → DecisionsPassed u
      → DecisionsAnswered (take_cell at k u)
  answered_cell at k h (budget c zero r l) p = other 21 at (budget c zero r l) (λ e. omega (arith, e)) p
  answered_cell at k h (budget c (suc d) r l) p = h (budget c d r l) p

  answered_begin : (at : ℕ) (k : Budget → Result) → ((u : Budget) → DecisionsPassed u → DecisionsAnswered (k u)) → (u : Budget) → DecisionsPassed u
      → DecisionsAnswered (begin_call at k u)
  answered_begin at k h (budget zero d r l) p = other 20 at (budget zero d r l) (λ e. omega (arith, e)) p
  answered_begin at k h (budget (suc c) zero r l) p = other 21 at (budget (suc c) zero r l) (λ e. omega (arith, e)) p
  answered_begin at k h (budget (suc c) (suc d) r l) p = h (budget c d r l) p

  answered_deep : (at : ℕ) (v : Value) (u : Budget) → DecisionsPassed u → DecisionsAnswered (too_deep at v u)
  answered_deep at (closure r ty body env) u p = other 19 at u (λ e. omega (arith, e)) p
  answered_deep at (bool b) u p = stuck at u p
  answered_deep at (num n) u p = stuck at u p

  answered_enter : (at : ℕ) (v w : Value) (run : Term → Env → Budget → Result)
      → ((c : Term) (e : Env) (u : Budget) → Every Tests c → EveryBodyIn Tests e → DecisionsPassed u → DecisionsAnswered (run c e u)) → (u : Budget)
      → EveryBody Tests v → EveryBody Tests w → DecisionsPassed u → DecisionsAnswered (enter at v w run u)
  answered_enter at (closure r ty body env) w run h u hv hw p =
      answered_begin at _
      (λ x q. h body (entered r ty body env w) x hv.0 (entered_bodies Tests r ty body env w hv.0 hv.1 hw) q) u p
  answered_enter at (bool b) w run h u hv hw p = stuck at u p
  answered_enter at (num n) w run h u hv hw p = stuck at u p

  -- ---- evaluations
  module _ (X : Control) (enforce : Bool) where
    abbrev M : Mode
    M = traced enforce

    abbrev AnsweredAll : Application standard X → Type 0
    AnsweredAll f =
        (at : ℕ) (v w : Value) (st : X.State) (u : Budget) → EveryBody Tests v → EveryBody Tests w → DecisionsPassed u → DecisionsAnswered (f at v w st u)

    module _ (f : Application standard X) (a : BodiesAll Tests standard X M f) (g : AnsweredAll f) where
      eval_answered : (c : Term) → Every Tests c → (st : X.State) (e : Env) (u : Budget) → EveryBodyIn Tests e → DecisionsPassed u
          → DecisionsAnswered (eval_with standard X M f c st e u)
      unfolding eval_with
      eval_answered (boolean at b) k st e u h p = answered_end p
      eval_answered (number at n) k st e u h p = answered_end p
      eval_answered (variable at i) k st e u h p = answered_found at i e u p
      eval_answered (function at ty body) k st e u h p = answered_end p
      eval_answered (letrec at ty body rest) k st e u h p =
          answered_cell at _ (λ w q. eval_answered rest k.2 st (bind (closure true ty body e) e) w ((k.1, h), h) q) u p
      eval_answered (call at c d) k st e u h p =
          answered_then _ _ (eval_answered c k.1 st e u h p) (eval_bodies Tests standard X M f a c k.1 st e u h)
          (λ v w hv q. answered_then _ _ (eval_answered d k.2 st e w h q) (eval_bodies Tests standard X M f a d k.2 st e w h)
          (λ x y hx o. g at v x st y hv hx o))
      eval_answered (if at c y n) k st e u h p =
          answered_then _ _ (eval_answered c k.1 st e u h p) (eval_bodies Tests standard X M f a c k.1 st e u h)
          (λ v w hv q. answered_branch at v _ _ w q (eval_answered y k.2 st e w h q) (eval_answered n k.3 st e w h q))
      eval_answered (check at r c) k st e u h p =
          answered_query enforce at (X.grants st) (some r) _ (λ w q. eval_answered c k.1 st e w h q) u p
      eval_answered (enable at r c) k st e u h p = eval_answered c k.1 (X.enables r st) e u h p
      eval_answered (sign at n c) k st e u h p = eval_answered c k.1 (X.signs n st) e u h p
      eval_answered (test at r y n) k st e u h p =
          let w = note (some (deciding at r (X.grants st r))) u in
          let q = tested at r (X.grants st r) k.0 u p in
          answered_choose (X.grants st r) _ _ w (eval_answered y k.1 st e w h q) (eval_answered n k.2 st e w h q)
      eval_answered (binary at op c d) k st e u h p =
          answered_then _ _ (eval_answered c k.1 st e u h p) (eval_bodies Tests standard X M f a c k.1 st e u h)
          (λ v w hv q. answered_then _ _ (eval_answered d k.2 st e w h q) (eval_bodies Tests standard X M f a d k.2 st e w h)
          (λ x y hx o. answered_compute at op v x y o))
      eval_answered (post at ch r c) k st e u h p =
          answered_then _ _ (eval_answered c k.1 st e u h p) (eval_bodies Tests standard X M f a c k.1 st e u h)
          (λ v w hv q. answered_post enforce at ch (X.grants st) r v w q)

    apply_answered : (k : ℕ) → AnsweredAll (apply standard X M k)
    unfolding apply
    apply_answered zero at v w st u hv hw p = answered_deep at v u p
    apply_answered (suc k) at v w st u hv hw p =
        answered_enter at v w _
        (λ body e x kb he q. eval_answered (apply standard X M k) (apply_bodies Tests standard X M k) (apply_answered k) body kb st e x he q) u hv hw p

    answered : (depth : ℕ) (c : Term) → Every Tests c → (st : X.State) (u : Budget) → DecisionsPassed u
        → DecisionsAnswered (eval standard X M depth c st empty u)
    unfolding eval
    answered k c h st u p = eval_answered (apply standard X M k) (apply_bodies Tests standard X M k) (apply_answered k) c h st empty u tt p

  -- ---- what is told and listed, in the order met
  passed_listed : (u : Budget) → DecisionsPassed u → Each GoesOn (decided_in u)
  passed_listed (budget c d r l) p = each_reversed GoesOn l.decisions [] p tt

  -- a list that ends in a no at term t, after decisions after which a run goes on
  abbrev LastIsNo : (t : ℕ) → List Event → Type 0
  LastIsNo t es = (before : List Event) × (p : ℕ) × (es ≡ before ++ deciding t p false ∷ []) × Each GoesOn before

  refused_listed : (r : ℕ) {x : Result} → DecisionsAnswered x → (t : ℕ) → outcome r x ≡ stopped 17 t → LastIsNo t (decided_in (left x))
  refused_listed r (answered_end {v = bool b} p) t e = absurd (ended≢stopped e)
  refused_listed r (answered_end {v = num n} p) t e = absurd (ended≢stopped e)
  refused_listed r (answered_end {v = closure s ty body env} p) t e = absurd (let z : ◌≡◌ {A = ℕ} 18 17 = cc in omega (arith, z))
  refused_listed r (answered_stop {c = c} n p) t e = absurd (n (let z : c ≡ 17 = cc in z))
  refused_listed r (answered_no {at = at} {l = l} x p) t e =
      let z : at ≡ t = cc in
      let es = l.decisions in (
        reverse es,
        x,
        reverse-cons (deciding at x false) es ∙ ap (λ (y : ℕ). reverse es ++ deciding y x false ∷ []) z,
        each_reversed GoesOn es [] p tt,
      )

  others_listed : (r : ℕ) {x : Result} → DecisionsAnswered x → ((t : ℕ) → outcome r x ≡ stopped 17 t → ⊥) → Each GoesOn (decided_in (left x))
  others_listed r (answered_end {u = u} p) n = passed_listed u p
  others_listed r (answered_stop {u = u} m p) n = passed_listed u p
  others_listed r (answered_no {at = at} x p) n = absurd (n at refl)

-- ---- the program of a readable sheet
module _ (s : List ℕ) where
  abbrev IsTest : (t : ℕ) → Type 0
  IsTest t = kind_of (kind_byte s t) ≡ Test

  node_tests : (k : Kind) (t x a b c : ℕ) (f : ℕ → Term) → kind_of (kind_byte s t) ≡ k → Tests IsTest (node (guard_of s) k t x a b c f)
  node_tests Boolean t x a b c f e = tt
  node_tests Number t x a b c f e = tt
  node_tests Variable t x a b c f e = tt
  node_tests Function t x a b c f e = tt
  node_tests Letrec t x a b c f e = tt
  node_tests Call t x a b c f e = tt
  node_tests If t x a b c f e = tt
  node_tests Check t x a b c f e = tt
  node_tests Enable t x a b c f e = tt
  node_tests Sign t x a b c f e = tt
  node_tests Test t x a b c f e = e
  node_tests Sum t x a b c f e = tt
  node_tests Difference t x a b c f e = tt
  node_tests Less t x a b c f e = tt
  node_tests Post t x a b c f e = tt

  module _ (w : WellFormed s) (enforce : Bool) (q : Request) (z : Sizes) where
    program_tests : Every (Tests IsTest) (program s)
    program_tests = program_every s w (Tests IsTest)
        (λ t l. node_tests (kind_of (kind_byte s t)) t (small s t) (first s t) (second s t) (third s t) (λ x. tree_to s t x) refl)

    evaluation_answered : (r : Runner) → DecisionsAnswered IsTest (evaluation_in (traced enforce) r s q z)
    evaluation_answered eager =
        answered IsTest (eager_control (authority s)) enforce q.depth (program s) program_tests (rights 0 (privs (authority s) (stack q.start)))
        (initial q z) tt
    evaluation_answered lazy =
        answered IsTest (lazy_control (authority s)) enforce q.depth (program s) program_tests (stack q.start) (initial q z) tt

    module _ (r : Runner) (n : ℕ) where
      pub refused_last : (t : ℕ) → outcome n (evaluation_in (traced enforce) r s q z) ≡ stopped 17 t
          → LastIsNo IsTest t (decided_in (left (evaluation_in (traced enforce) r s q z)))
      refused_last t e = refused_listed IsTest n (evaluation_answered r) t e

      pub others_go_on : ((t : ℕ) → outcome n (evaluation_in (traced enforce) r s q z) ≡ stopped 17 t → ⊥)
          → Each (GoesOn IsTest) (decided_in (left (evaluation_in (traced enforce) r s q z)))
      others_go_on h = others_listed IsTest n (evaluation_answered r) h
