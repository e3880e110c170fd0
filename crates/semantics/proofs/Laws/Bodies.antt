-- What every term of an evaluated term and of the bodies in its environment has, every term of the bodies in its value has, and so has the check, guarded post
-- or if that stops it: an evaluation makes no term. Over any domain.
use Rattle.std.specs.Prelude.{Bool, ◌≡◌}
use Rattle.std.proofs.Math.Bool.{true, false}
use Rattle.std.proofs.Common.{true≢false, arith}
use Rattle.std.proofs.Math.Option.{Option, none, some}
use Rattle.std.proofs.Math.Path.{refl}
use Prim.Native.Nat.{ℕ, zero, suc, ◌≤◌}
use Rattle.program.specs.Terms.{Op, sum, difference, less, Term, boolean, number, variable, function, letrec, call, if, check, enable, sign, test, binary, post, Every}
use Rattle.program.proofs.Laws.Trees.{every_any}
use Rattle.traces.specs.Traces.{Event}
use Rattle.semantics.specs.Domains.{Domain, Interpretation}
use Rattle.semantics.specs.Values.{ValueOf, bool, num, closure, EnvOf, empty, bind, lookup, entered, Budget, budget, ResultOf, ends, stops}
use Rattle.semantics.specs.Meaning.{Control, Mode, ◌then◌, choose, variable_value, decided, branch, compute, append_post, note, post_value, take_cell, begin_call, too_deep, enter, passes, guard_passes, event_if, lists_checks, Application, eval_with, apply, eval}

-- What stops an evaluation of terms that have Q, and at which of them: 17 at a check or a guarded post, 18 to 22, or 36 at an if whose condition is undecided.
pub data StopsAt (D : Domain) (Q : Term → Type 0) (c at : ℕ) : Type 0 where
  stop_check : {p : ℕ} {x : Term} → c ≡ 17 → Q (check at p x) → StopsAt D Q c at
  stop_guard : {ch p : ℕ} {x : Term} → c ≡ 17 → Q (post at ch (some p) x) → StopsAt D Q c at
  stop_other : 18 ≤ c → c ≤ 22 → StopsAt D Q c at
  stop_undecided : {b : D.Truth} {x y n : Term} → c ≡ 36 → D.decide b ≡ none → Q (if at x y n) → StopsAt D Q c at

module _ {D : Domain} (Q : Term → Type 0) where
  -- of the closures in a value and in an environment
  abbrev mutual
    pub EveryBody : ValueOf D → Type 0
    EveryBody (bool b) = Unit {0}
    EveryBody (num n) = Unit {0}
    EveryBody (closure r ty body env) = Every Q body × EveryBodyIn env

    pub EveryBodyIn : EnvOf D → Type 0
    EveryBodyIn empty = Unit {0}
    EveryBodyIn (bind v e) = EveryBody v × EveryBodyIn e

  -- what each term has, all of them have
  mutual
    body_any : ((c : Term) → Q c) → (v : ValueOf D) → EveryBody v
    body_any q (bool b) = tt
    body_any q (num n) = tt
    body_any q (closure r ty body env) = (every_any q body, bodies_any q env)

    pub bodies_any : ((c : Term) → Q c) → (e : EnvOf D) → EveryBodyIn e
    bodies_any q empty = tt
    bodies_any q (bind v e) = (body_any q v, bodies_any q e)

  -- of the value that a result has, or of where it stops
  pub data Bodies : ResultOf D → Type 0 where
    bodies_end : {v : ValueOf D} {u : Budget} → EveryBody v → Bodies (ends v u)
    bodies_stop : {c at : ℕ} {u : Budget} → StopsAt D Q c at → Bodies (stops c at u)

  -- ---- each way of putting results together
  bodies_then : (x : ResultOf D) (k : ValueOf D → Budget → ResultOf D) → Bodies x → ((v : ValueOf D) (u : Budget) → EveryBody v → Bodies (k v u))
      → Bodies (x then k)
  bodies_then (ends v u) k (bodies_end h) f = f v u h
  bodies_then (stops c at u) k (bodies_stop h) f = bodies_stop h

  bodies_choose : (b : Bool) (y n : Budget → ResultOf D) (u : Budget) → Bodies (y u) → Bodies (n u) → Bodies (choose b y n u)
  bodies_choose true y n u hy hn = hy
  bodies_choose false y n u hy hn = hn

  -- a stop by a cause that several kinds of terms have
  other : (c at : ℕ) (u : Budget) → 18 ≤ c → c ≤ 22 → Bodies (stops c at u)
  other c at u l h = bodies_stop (stop_other l h)

  stuck : (at : ℕ) (u : Budget) → Bodies (stops 18 at u)
  stuck at u = other 18 at u (omega arith) (omega arith)

  bodies_found : (at i : ℕ) (e : EnvOf D) (u : Budget) → EveryBodyIn e → Bodies (variable_value at (lookup e i) u)
  bodies_found at i empty u h = stuck at u
  bodies_found at zero (bind v e) u h = bodies_end h.0
  bodies_found at (suc i) (bind v e) u h = bodies_found at i e u h.1

  bodies_decided : (at : ℕ) (o : Option Bool) (y n : Budget → ResultOf D) (u : Budget) → (o ≡ none → StopsAt D Q 36 at) → Bodies (y u) → Bodies (n u)
      → Bodies (decided at o y n u)
  bodies_decided at (some b) y n u s hy hn = bodies_choose b y n u hy hn
  bodies_decided at none y n u s hy hn = bodies_stop (s refl)

  bodies_branch : (at : ℕ) (v : ValueOf D) (y n : Budget → ResultOf D) (u : Budget) → {c d e : Term} → Q (if at c d e) → Bodies (y u) → Bodies (n u)
      → Bodies (branch at v y n u)
  bodies_branch at (bool b) y n u q hy hn = bodies_decided at (D.decide b) y n u (λ e. stop_undecided refl e q) hy hn
  bodies_branch at (num m) y n u q hy hn = stuck at u
  bodies_branch at (closure r ty body env) y n u q hy hn = stuck at u

  bodies_compute : (at : ℕ) (op : Op) (v w : ValueOf D) (u : Budget) → Bodies (compute at op v w u)
  bodies_compute at sum (num m) (num n) u = bodies_end tt
  bodies_compute at difference (num m) (num n) u = bodies_end tt
  bodies_compute at less (num m) (num n) u = bodies_end tt
  bodies_compute at op (num m) (bool b) u = stuck at u
  bodies_compute at op (num m) (closure r ty body env) u = stuck at u
  bodies_compute at op (bool b) w u = stuck at u
  bodies_compute at op (closure r ty body env) w u = stuck at u

  bodies_append : (at ch : ℕ) (n : D.Number) (u : Budget) → Bodies (append_post at ch n u)
  bodies_append at ch n (budget c d zero l) = other 22 at (budget c d zero l) (omega arith) (omega arith)
  bodies_append at ch n (budget c d (suc r) l) = bodies_end tt

  -- 17 is told only where a guard does not pass, and so only where there is one
  guard_fails : (enforce : Bool) (grants : ℕ → Bool) (g : Option ℕ) {at ch : ℕ} {c : Term} → Q (post at ch g c) → guard_passes enforce grants g ≡ false
      → StopsAt D Q 17 at
  guard_fails enforce grants none q e = absurd (true≢false e)
  guard_fails enforce grants (some p) q e = stop_guard refl q

  bodies_post : (at ch : ℕ) (allowed : Bool) (o : Option Event) (v : ValueOf D) (u : Budget) → (allowed ≡ false → StopsAt D Q 17 at)
      → Bodies (post_value at ch allowed o v u)
  bodies_post at ch true o (num n) u s = bodies_append at ch n (note o u)
  bodies_post at ch false o (num n) u s = bodies_stop (s refl)
  bodies_post at ch allowed o (bool b) u s = stuck at u
  bodies_post at ch allowed o (closure r ty body env) u s = stuck at u

  bodies_cell : (at : ℕ) (k : Budget → ResultOf D) → ((u : Budget) → Bodies (k u)) → (u : Budget) → Bodies (take_cell at k u)
  bodies_cell at k h (budget c zero r l) = other 21 at (budget c zero r l) (omega arith) (omega arith)
  bodies_cell at k h (budget c (suc d) r l) = h (budget c d r l)

  bodies_begin : (at : ℕ) (k : Budget → ResultOf D) → ((u : Budget) → Bodies (k u)) → (u : Budget) → Bodies (begin_call at k u)
  bodies_begin at k h (budget zero d r l) = other 20 at (budget zero d r l) (omega arith) (omega arith)
  bodies_begin at k h (budget (suc c) zero r l) = other 21 at (budget (suc c) zero r l) (omega arith) (omega arith)
  bodies_begin at k h (budget (suc c) (suc d) r l) = h (budget c d r l)

  bodies_deep : (at : ℕ) (v : ValueOf D) (u : Budget) → Bodies (too_deep at v u)
  bodies_deep at (closure r ty body env) u = other 19 at u (omega arith) (omega arith)
  bodies_deep at (bool b) u = stuck at u
  bodies_deep at (num n) u = stuck at u

  pub entered_bodies : (r : Bool) (ty : ℕ) (body : Term) (env : EnvOf D) (w : ValueOf D) → Every Q body → EveryBodyIn env → EveryBody w
      → EveryBodyIn (entered r ty body env w)
  entered_bodies true ty body env w k h g = (g, ((k, h), h))
  entered_bodies false ty body env w k h g = (g, h)

  bodies_enter : (at : ℕ) (v w : ValueOf D) (run : Term → EnvOf D → Budget → ResultOf D)
      → ((c : Term) (e : EnvOf D) (u : Budget) → Every Q c → EveryBodyIn e → Bodies (run c e u)) → (u : Budget) → EveryBody v → EveryBody w
      → Bodies (enter at v w run u)
  bodies_enter at (closure r ty body env) w run h u hv hw =
      bodies_begin at _ (λ x. h body (entered r ty body env w) x hv.0 (entered_bodies r ty body env w hv.0 hv.1 hw)) u
  bodies_enter at (bool b) w run h u hv hw = stuck at u
  bodies_enter at (num n) w run h u hv hw = stuck at u

-- ---- evaluations
module _ (Q : Term → Type 0) (I : Interpretation) (X : Control) (M : Mode) where
  abbrev pub BodiesAll : Application I X → Type 0
  BodiesAll f = (at : ℕ) (v w : ValueOf I.domain) (st : X.State) (u : Budget) → EveryBody Q v → EveryBody Q w → Bodies Q (f at v w st u)

  pub eval_bodies : (f : Application I X) → BodiesAll f → (c : Term) → Every Q c → (st : X.State) (e : EnvOf I.domain) (u : Budget) → EveryBodyIn Q e
      → Bodies Q (eval_with I X M f c st e u)
  unfolding eval_with
  eval_bodies f a (boolean at b) k st e u h = bodies_end tt
  eval_bodies f a (number at n) k st e u h = bodies_end tt
  eval_bodies f a (variable at i) k st e u h = bodies_found Q at i e u h
  eval_bodies f a (function at ty body) k st e u h = bodies_end {v = closure false ty body e} (k.1, h)
  eval_bodies f a (letrec at ty body rest) k st e u h =
      bodies_cell Q at _ (λ w. eval_bodies f a rest k.2 st (bind (closure true ty body e) e) w ((k.1, h), h)) u
  eval_bodies f a (call at c d) k st e u h =
      bodies_then Q _ _ (eval_bodies f a c k.1 st e u h)
      (λ v w hv. bodies_then Q _ _ (eval_bodies f a d k.2 st e w h) (λ x y hx. a at v x st y hv hx))
  eval_bodies f a (if at c y n) k st e u h =
      bodies_then Q _ _ (eval_bodies f a c k.1 st e u h)
      (λ v w hv. bodies_branch Q at v _ _ w k.0 (eval_bodies f a y k.2 st e w h) (eval_bodies f a n k.3 st e w h))
  eval_bodies f a (check at r c) k st e u h =
      let w = note (event_if (lists_checks M) at (X.grants st) (some r)) u in
      bodies_choose Q (passes M.enforce (X.grants st r)) _ _ w (eval_bodies f a c k.1 st e w h) (bodies_stop (stop_check refl k.0))
  eval_bodies f a (enable at r c) k st e u h = eval_bodies f a c k.1 (X.enables r st) e u h
  eval_bodies f a (sign at n c) k st e u h = eval_bodies f a c k.1 (X.signs n st) e u h
  eval_bodies f a (test at r y n) k st e u h =
      let w = note (event_if M.tracing at (X.grants st) (some r)) u in
      bodies_choose Q (X.grants st r) _ _ w (eval_bodies f a y k.1 st e w h) (eval_bodies f a n k.2 st e w h)
  eval_bodies f a (binary at op c d) k st e u h =
      bodies_then Q _ _ (eval_bodies f a c k.1 st e u h)
      (λ v w hv. bodies_then Q _ _ (eval_bodies f a d k.2 st e w h) (λ x y hx. bodies_compute Q at op v x y))
  eval_bodies f a (post at ch g c) k st e u h =
      bodies_then Q _ _ (eval_bodies f a c k.1 st e u h)
      (λ v w hv. bodies_post Q at ch _ _ v w (guard_fails Q M.enforce (X.grants st) g k.0))

  pub apply_bodies : (k : ℕ) → BodiesAll (apply I X M k)
  unfolding apply
  apply_bodies zero at v w st u hv hw = bodies_deep Q at v u
  apply_bodies (suc k) at v w st u hv hw =
      bodies_enter Q at v w _ (λ body e x kb he. eval_bodies (apply I X M k) (apply_bodies k) body kb st e x he) u hv hw

  pub bodies : (depth : ℕ) (c : Term) → Every Q c → (st : X.State) (e : EnvOf I.domain) (u : Budget) → EveryBodyIn Q e
      → Bodies Q (eval I X M depth c st e u)
  unfolding eval
  bodies k c h st e u g = eval_bodies (apply I X M k) (apply_bodies k) c h st e u g
