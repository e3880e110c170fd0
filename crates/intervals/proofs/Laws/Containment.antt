-- The relational lemma: over ranges and over numbers inside them, a term comes to values inside each other, or to the same stop, with the same calls, cells and
-- places left and posts inside their ranges; or the run over ranges stops by 36. Access control and its state are the same in both.
use Rattle.std.specs.Prelude.{Bool, true, false, ◌∷◌, ◌≡◌}
use Rattle.std.proofs.Math.Option.{Option, none, some}
use Rattle.std.proofs.Common.{sym, subst, arith}
use Prim.Native.Nat.{ℕ, zero, suc, ◌<◌}
use Rattle.program.specs.Terms.{Op, sum, difference, less, Term, boolean, number, variable, function, letrec, call, if, check, enable, sign, test, binary, post, Every, Unguarded}
use Rattle.traces.specs.Traces.{Event}
use Rattle.semantics.specs.Domains.{saturates, post_entry, Interpretation}
use Rattle.semantics.specs.Values.{ValueOf, Value, bool, num, closure, EnvOf, Env, empty, bind, lookup, entered, Log, Budget, budget, ResultOf, Result, ends, stops}
use Rattle.semantics.specs.Meaning.{Control, Mode, ◌then◌, choose, variable_value, branch, operate, count_saturated, compute, append_post, note, post_value, take_cell, begin_call, too_deep, enter, passes, guard_passes, event_if, lists_checks, Application, eval_with, apply, eval}
use Rattle.intervals.specs.Intervals.{Interval, interval_entry, intervals}
use Rattle.intervals.specs.Claims.{Inside, chosen, InsidePosts, next_post}
use Rattle.intervals.proofs.Laws.Arithmetic.{Agrees, agrees_known, agrees_none, sum_inside, difference_inside, less_agrees}

-- a range of 16-bit numbers, and one of them
pub record NumberInside (i : Interval) (n : ℕ) : Type 0 where
  pub inside : Inside i n
  pub low : i.high < 65536

-- what is left, and posts inside their ranges
pub data InsideBudget : Budget → Budget → Type 0 where
  inside_budget : {c d r : ℕ} {l m : Log} → InsidePosts l.posts m.posts → InsideBudget (budget c d r l) (budget c d r m)

-- L is what number terms stand for in the one run, ρ in the other
module _ (L : ℕ → Interval) (ρ : (at n : ℕ) → ℕ) where
  abbrev over : Interpretation
  over = record { domain = intervals; literal = λ at n. L at }

  abbrev pub LiteralsInside : Term → Type 0
  LiteralsInside (boolean at b) = Unit {0}
  LiteralsInside (number at n) = NumberInside (L at) (ρ at n)
  LiteralsInside (variable at i) = Unit {0}
  LiteralsInside (function at ty body) = Unit {0}
  LiteralsInside (letrec at ty body rest) = Unit {0}
  LiteralsInside (call at f a) = Unit {0}
  LiteralsInside (if at c y n) = Unit {0}
  LiteralsInside (check at p c) = Unit {0}
  LiteralsInside (enable at p c) = Unit {0}
  LiteralsInside (sign at n c) = Unit {0}
  LiteralsInside (test at p y n) = Unit {0}
  LiteralsInside (binary at op a b) = Unit {0}
  LiteralsInside (post at ch g c) = Unit {0}

  mutual
    pub data InsideValue : ValueOf intervals → Value → Type 0 where
      v_truth : {t : Option Bool} {b : Bool} → Agrees t b → InsideValue (bool t) (bool b)
      v_number : {i : Interval} {n : ℕ} → NumberInside i n → InsideValue (num i) (num n)
      v_closure : {r : Bool} {ty : ℕ} {body : Term} {e : EnvOf intervals} {e' : Env} → Every LiteralsInside body → Unguarded body → InsideEnv e e'
          → InsideValue (closure r ty body e) (closure r ty body e')

    pub data InsideEnv : EnvOf intervals → Env → Type 0 where
      env_empty : InsideEnv empty empty
      env_bind : {v : ValueOf intervals} {w : Value} {e : EnvOf intervals} {e' : Env} → InsideValue v w → InsideEnv e e' → InsideEnv (bind v e) (bind w e')

  pub data InsideResult : ResultOf intervals → Result → Type 0 where
    r_ends : {v : ValueOf intervals} {w : Value} {u u' : Budget} → InsideValue v w → InsideBudget u u' → InsideResult (ends v u) (ends w u')
    r_stops : {c at : ℕ} {u u' : Budget} → InsideBudget u u' → InsideResult (stops c at u) (stops c at u')
    r_undecided : {at : ℕ} {u : Budget} {y : Result} → InsideResult (stops 36 at u) y

  -- ---- each way of putting results together
  inside_then : {x : ResultOf intervals} {y : Result} (k : ValueOf intervals → Budget → ResultOf intervals) (l : Value → Budget → Result) → InsideResult x y
      → ((v : ValueOf intervals) (w : Value) → InsideValue v w → (u u' : Budget) → InsideBudget u u' → InsideResult (k v u) (l w u'))
      → InsideResult (x then k) (y then l)
  inside_then k l (r_ends {v} {w} {u} {u'} h b) f = f v w h u u' b
  inside_then k l (r_stops b) f = r_stops b
  inside_then k l r_undecided f = r_undecided

  inside_choose : (b : Bool) (y n : Budget → ResultOf intervals) (y' n' : Budget → Result) (u u' : Budget) → InsideResult (y u) (y' u')
      → InsideResult (n u) (n' u') → InsideResult (choose b y n u) (choose b y' n' u')
  inside_choose true y n y' n' u u' hy hn = hy
  inside_choose false y n y' n' u u' hy hn = hn

  inside_found : {e : EnvOf intervals} {e' : Env} → InsideEnv e e' → (i at : ℕ) {u u' : Budget} → InsideBudget u u'
      → InsideResult (variable_value at (lookup e i) u) (variable_value at (lookup e' i) u')
  inside_found env_empty i at b = r_stops b
  inside_found (env_bind v e) zero at b = r_ends v b
  inside_found (env_bind v e) (suc i) at b = inside_found e i at b

  inside_branch : (at : ℕ) {v : ValueOf intervals} {w : Value} → InsideValue v w → (y n : Budget → ResultOf intervals) (y' n' : Budget → Result)
      (u u' : Budget) → InsideBudget u u' → InsideResult (y u) (y' u') → InsideResult (n u) (n' u')
      → InsideResult (branch at v y n u) (branch at w y' n' u')
  inside_branch at (v_truth (agrees_known {b})) y n y' n' u u' h hy hn = inside_choose b y n y' n' u u' hy hn
  inside_branch at (v_truth agrees_none) y n y' n' u u' h hy hn = r_undecided
  inside_branch at (v_number w) y n y' n' u u' h hy hn = r_stops h
  inside_branch at (v_closure c p e) y n y' n' u u' h hy hn = r_stops h

  inside_operate : (op : Op) (i j : Interval) (m n : ℕ) → NumberInside i m → NumberInside j n → InsideValue (operate op i j) (operate op m n)
  inside_operate sum i j m n v w = v_number (record { inside = sum_inside i j m n v.inside w.inside; low = omega arith })
  inside_operate difference i j m n v w = v_number (record { inside = difference_inside i j m n v.inside w.inside; low = omega (arith, v.low) })
  inside_operate less i j m n v w = v_truth (less_agrees i j m n v.inside w.inside)

  -- held results are counted in the plain run alone
  inside_count : (b : Bool) {u u' : Budget} → InsideBudget u u' → InsideBudget (count_saturated false u) (count_saturated b u')
  inside_count b (inside_budget p) = inside_budget p

  inside_compute : (at : ℕ) (op : Op) {v w : ValueOf intervals} {v' w' : Value} → InsideValue v v' → InsideValue w w' → {u u' : Budget} → InsideBudget u u'
      → InsideResult (compute at op v w u) (compute at op v' w' u')
  inside_compute at op (v_number {i = i} {n = m} v) (v_number {i = j} {n = n} w) b =
      r_ends (inside_operate op i j m n v w) (inside_count (saturates op m n) b)
  inside_compute at op (v_number v) (v_truth t) b = r_stops b
  inside_compute at op (v_number v) (v_closure c p e) b = r_stops b
  inside_compute at op (v_truth t) w b = r_stops b
  inside_compute at op (v_closure c p e) w b = r_stops b

  -- a listed decision is no post
  inside_noted : (o : Option Event) {u u' : Budget} → InsideBudget u u' → InsideBudget (note o u) (note o u')
  inside_noted none b = b
  inside_noted (some e) (inside_budget p) = inside_budget p

  inside_decision : (o : Option Event) (b : Bool) (y n : Budget → ResultOf intervals) (y' n' : Budget → Result)
      → ((u u' : Budget) → InsideBudget u u' → InsideResult (y u) (y' u')) → ((u u' : Budget) → InsideBudget u u' → InsideResult (n u) (n' u'))
      → {u u' : Budget} → InsideBudget u u' → InsideResult (choose b y n (note o u)) (choose b y' n' (note o u'))
  inside_decision o true y n y' n' hy hn h = hy _ _ (inside_noted o h)
  inside_decision o false y n y' n' hy hn h = hn _ _ (inside_noted o h)

  inside_append : (at : ℕ) {ch : ℕ} → ch ≡ 0 → {i : Interval} {n : ℕ} → NumberInside i n → {u u' : Budget} → InsideBudget u u'
      → InsideResult (append_post at ch i u) (append_post at ch n u')
  inside_append at z w (inside_budget {r = zero} p) = r_stops (inside_budget p)
  inside_append at {ch} z {i} {n} w (inside_budget {r = suc r} {l = l} {m = m} p) =
      let same : post_entry ch n ≡ n = omega (arith, z) in
      r_ends (v_number w)
      (inside_budget (subst (λ (x : ℕ). InsidePosts (interval_entry i ∷ l.posts) (x ∷ m.posts)) (sym same) (next_post w.low w.inside p)))

  inside_post : (at : ℕ) {ch : ℕ} → ch ≡ 0 → (allowed : Bool) (o : Option Event) {v : ValueOf intervals} {w : Value} → InsideValue v w → {u u' : Budget}
      → InsideBudget u u' → InsideResult (post_value at ch allowed o v u) (post_value at ch allowed o w u')
  inside_post at z allowed o (v_number w) b = inside_decision o allowed _ _ _ _ (λ _ _ u₁. inside_append at z w u₁) (λ _ _ u₁. r_stops u₁) b
  inside_post at z allowed o (v_truth t) b = r_stops b
  inside_post at z allowed o (v_closure c p e) b = r_stops b

  inside_cell : (at : ℕ) (k : Budget → ResultOf intervals) (l : Budget → Result) → ((u u' : Budget) → InsideBudget u u' → InsideResult (k u) (l u'))
      → {u u' : Budget} → InsideBudget u u' → InsideResult (take_cell at k u) (take_cell at l u')
  inside_cell at k l h (inside_budget {d = zero} p) = r_stops (inside_budget p)
  inside_cell at k l h (inside_budget {d = suc d} p) = h _ _ (inside_budget p)

  inside_begin : (at : ℕ) (k : Budget → ResultOf intervals) (l : Budget → Result) → ((u u' : Budget) → InsideBudget u u' → InsideResult (k u) (l u'))
      → {u u' : Budget} → InsideBudget u u' → InsideResult (begin_call at k u) (begin_call at l u')
  inside_begin at k l h (inside_budget {c = zero} p) = r_stops (inside_budget p)
  inside_begin at k l h (inside_budget {c = suc c} {d = zero} p) = r_stops (inside_budget p)
  inside_begin at k l h (inside_budget {c = suc c} {d = suc d} p) = h _ _ (inside_budget p)

  inside_deep : (at : ℕ) {v : ValueOf intervals} {w : Value} → InsideValue v w → {u u' : Budget} → InsideBudget u u'
      → InsideResult (too_deep at v u) (too_deep at w u')
  inside_deep at (v_closure c p e) b = r_stops b
  inside_deep at (v_truth t) b = r_stops b
  inside_deep at (v_number w) b = r_stops b

  inside_entered : (r : Bool) (ty : ℕ) (body : Term) {e : EnvOf intervals} {e' : Env} {v : ValueOf intervals} {w : Value} → Every LiteralsInside body
      → Unguarded body
      → InsideEnv e e' → InsideValue v w → InsideEnv (entered r ty body e v) (entered r ty body e' w)
  inside_entered true ty body c p e v = env_bind v (env_bind (v_closure c p e) e)
  inside_entered false ty body c p e v = env_bind v e

  inside_enter : (at : ℕ) {v w : ValueOf intervals} {v' w' : Value} → InsideValue v v' → InsideValue w w'
      → (k : Term → EnvOf intervals → Budget → ResultOf intervals) (l : Term → Env → Budget → Result)
      → ((c : Term) (e : EnvOf intervals) (e' : Env) → Every LiteralsInside c → Unguarded c → InsideEnv e e' → (u u' : Budget) → InsideBudget u u'
      → InsideResult (k c e u) (l c e' u')) → {u u' : Budget} → InsideBudget u u' → InsideResult (enter at v w k u) (enter at v' w' l u')
  inside_enter at (v_closure {r} {ty} {body} c p e) w k l h b =
      inside_begin at _ _ (λ u u' b₁. h body _ _ c p (inside_entered r ty body c p e w) u u' b₁) b
  inside_enter at (v_truth t) w k l h b = r_stops b
  inside_enter at (v_number n) w k l h b = r_stops b

  -- ---- evaluations
  module _ (X : Control) (M : Mode) where
    abbrev InsideApplication : Application over X → Application (chosen ρ) X → Type 0
    InsideApplication f g = (at : ℕ) (v w : ValueOf intervals) (v' w' : Value) → InsideValue v v' → InsideValue w w' → (st : X.State) (u u' : Budget)
        → InsideBudget u u' → InsideResult (f at v w st u) (g at v' w' st u')

    module _ (f : Application over X) (g : Application (chosen ρ) X) (h : InsideApplication f g) where
      eval_inside : (c : Term) → Every LiteralsInside c → Unguarded c → (st : X.State) {e : EnvOf intervals} {e' : Env} → InsideEnv e e' → {u u' : Budget}
          → InsideBudget u u' → InsideResult (eval_with over X M f c st e u) (eval_with (chosen ρ) X M g c st e' u')
      unfolding eval_with
      eval_inside (boolean at b) k p st e u = r_ends (v_truth agrees_known) u
      eval_inside (number at n) k p st e u = r_ends (v_number k) u
      eval_inside (variable at i) k p st e u = inside_found e i at u
      eval_inside (function at ty body) k p st e u = r_ends (v_closure k.1 p e) u
      eval_inside (letrec at ty body rest) k p st e u =
          inside_cell at _ _ (λ _ _ u₁. eval_inside rest k.2 p.1 st (env_bind (v_closure {r = true} {ty = ty} k.1 p.0 e) e) u₁) u
      eval_inside (call at c a) k p st e u =
          inside_then _ _ (eval_inside c k.1 p.0 st e u)
          (λ _ _ v _ _ u₁. inside_then _ _ (eval_inside a k.2 p.1 st e u₁) (λ _ _ w _ _ u₂. h at _ _ _ _ v w st _ _ u₂))
      eval_inside (if at c y n) k p st e u =
          inside_then _ _ (eval_inside c k.1 p.0 st e u)
          (λ _ _ v _ _ u₁. inside_branch at v _ _ _ _ _ _ u₁ (eval_inside y k.2 p.1 st e u₁) (eval_inside n k.3 p.2 st e u₁))
      eval_inside (check at x c) k p st e u =
          inside_decision (event_if (lists_checks M) at (X.grants st) (some x)) (passes M.enforce (X.grants st x)) _ _ _ _
          (λ _ _ u₁. eval_inside c k.1 p st e u₁) (λ _ _ u₁. r_stops u₁) u
      eval_inside (enable at x c) k p st e u = eval_inside c k.1 p (X.enables x st) e u
      eval_inside (sign at n c) k p st e u = eval_inside c k.1 p (X.signs n st) e u
      eval_inside (test at x y n) k p st e u =
          inside_decision (event_if M.tracing at (X.grants st) (some x)) (X.grants st x) _ _ _ _
          (λ _ _ u₁. eval_inside y k.1 p.0 st e u₁) (λ _ _ u₁. eval_inside n k.2 p.1 st e u₁) u
      eval_inside (binary at op a b) k p st e u =
          inside_then _ _ (eval_inside a k.1 p.0 st e u)
          (λ _ _ v _ _ u₁. inside_then _ _ (eval_inside b k.2 p.1 st e u₁) (λ _ _ w _ _ u₂. inside_compute at op v w u₂))
      eval_inside (post at ch x c) k p st e u =
          inside_then _ _ (eval_inside c k.1 p.1 st e u)
          (λ _ _ v _ _ u₁. inside_post at p.0.0 (guard_passes M.enforce (X.grants st) x) (event_if (lists_checks M) at (X.grants st) x) v u₁)

    apply_inside : (k : ℕ) → InsideApplication (apply over X M k) (apply (chosen ρ) X M k)
    unfolding apply
    apply_inside zero at _ _ _ _ v w st _ _ u = inside_deep at v u
    apply_inside (suc k) at _ _ _ _ v w st _ _ u =
        inside_enter at v w _ _
        (λ c _ _ h p e _ _ u₁. eval_inside (apply over X M k) (apply (chosen ρ) X M k) (apply_inside k) c h p st e u₁) u

    pub inside : (depth : ℕ) (c : Term) → Every LiteralsInside c → Unguarded c → (st : X.State) {u u' : Budget} → InsideBudget u u'
        → InsideResult (eval over X M depth c st empty u) (eval (chosen ρ) X M depth c st empty u')
    unfolding eval
    inside k c h p st u = eval_inside (apply over X M k) (apply (chosen ρ) X M k) (apply_inside k) c h p st env_empty u
