-- Listing decisions changes nothing else: an evaluation in any mode, its list of decisions forgotten, is that of the plain mode from the budget without one.
use Rattle.std.specs.Prelude.{Bool, List, [], ◌≡◌, refl}
use Rattle.std.proofs.Math.Bool.{true, false}
use Rattle.std.proofs.Math.Option.{Option, none, some}
use Rattle.std.proofs.Common.{◌∙◌}
use Prim.Native.Nat.{ℕ, zero, suc}
use Rattle.program.specs.Layout.{authority}
use Rattle.program.specs.Terms.{Op, Term, boolean, number, variable, function, letrec, call, if, check, enable, sign, test, binary, post, program}
use Rattle.traces.specs.Traces.{Event}
use Rattle.semantics.specs.Domains.{Domain, Interpretation, standard}
use Rattle.semantics.specs.Values.{ValueOf, bool, num, closure, EnvOf, empty, bind, lookup, entered, Budget, budget, ResultOf, ends, stops}
use Rattle.semantics.specs.Meaning.{Control, Mode, plain, ◌then◌, choose, variable_value, decided, branch, compute, append_post, note, post_value, take_cell, begin_call, too_deep, enter, passes, event_if, lists_checks, Application, eval_with, apply, eval}
use Rattle.semantics.specs.Access.{privs, lazy_control, rights, eager_control}
use Rattle.semantics.specs.Runs.{Runner, eager, lazy, Request, Sizes, stack, initial, evaluation_in, outcome, left, counts, in_order}

abbrev pub forget_in : Budget → Budget
forget_in (budget c d r l) = budget c d r (record { posts = l.posts; saturated = l.saturated; decisions = [] })

abbrev pub forget : {D : Domain} → ResultOf D → ResultOf D
forget (ends v u) = ends v (forget_in u)
forget (stops c at u) = stops c at (forget_in u)

forgets_note : (o : Option Event) (u : Budget) → forget_in (note o u) ≡ forget_in u
forgets_note none u = refl
forgets_note (some e) (budget c d r l) = refl

module _ {D : Domain} where
  -- a result that is another but for its list
  record Forgets (x y : ResultOf D) : Type 0 where
    same : forget x ≡ y

  -- ---- each way of putting results together
  forgets_then : (x y : ResultOf D) (k l : ValueOf D → Budget → ResultOf D) → Forgets x y
      → ((v : ValueOf D) (u : Budget) → Forgets (k v u) (l v (forget_in u)))
      → Forgets (x then k) (y then l)
  forgets_then (ends v u) y k l e h = record { same = (h v u).same ∙ λ i. e.same i then l }
  forgets_then (stops c at u) y k l e h = record { same = λ i. e.same i then l }

  forgets_end : (v : ValueOf D) (u : Budget) → Forgets (ends v u) (ends v (forget_in u))
  forgets_end v u = record { same = refl }

  forgets_stop : (c at : ℕ) (u : Budget) → Forgets (stops c at u) (stops c at (forget_in u))
  forgets_stop c at u = record { same = refl }

  forgets_found : (at : ℕ) (o : Option (ValueOf D)) (u : Budget) → Forgets (variable_value at o u) (variable_value at o (forget_in u))
  forgets_found at (some v) u = forgets_end v u
  forgets_found at none u = forgets_stop 18 at u

  forgets_compute : (at : ℕ) (op : Op) (v w : ValueOf D) (u : Budget) → Forgets (compute at op v w u) (compute at op v w (forget_in u))
  forgets_compute at op (num m) (num n) (budget c d r l) = record { same = refl }
  forgets_compute at op (num m) (bool b) u = forgets_stop 18 at u
  forgets_compute at op (num m) (closure r ty body env) u = forgets_stop 18 at u
  forgets_compute at op (bool b) w u = forgets_stop 18 at u
  forgets_compute at op (closure r ty body env) w u = forgets_stop 18 at u

  -- what a decision chooses, once it is listed
  forgets_decided : (b : Bool) (y n y' n' : Budget → ResultOf D) (o : Option Event) (u : Budget) → ((w : Budget) → Forgets (y w) (y' (forget_in w)))
      → ((w : Budget) → Forgets (n w) (n' (forget_in w))) → Forgets (choose b y n (note o u)) (choose b y' n' (forget_in u))
  forgets_decided true y n y' n' o u hy hn = record { same = (hy (note o u)).same ∙ λ i. y' (forgets_note o u i) }
  forgets_decided false y n y' n' o u hy hn = record { same = (hn (note o u)).same ∙ λ i. n' (forgets_note o u i) }

  forgets_branch : (at : ℕ) (v : ValueOf D) (y n y' n' : Budget → ResultOf D) (u : Budget) → ((w : Budget) → Forgets (y w) (y' (forget_in w)))
      → ((w : Budget) → Forgets (n w) (n' (forget_in w))) → Forgets (branch at v y n u) (branch at v y' n' (forget_in u))
  forgets_branch at (bool b) y n y' n' u hy hn = go (D.decide b)
    where
      go : (o : Option Bool) → Forgets (decided at o y n u) (decided at o y' n' (forget_in u))
      go (some c) = forgets_decided c y n y' n' none u hy hn
      go none = forgets_stop 36 at u
  forgets_branch at (num m) y n y' n' u hy hn = forgets_stop 18 at u
  forgets_branch at (closure r ty body env) y n y' n' u hy hn = forgets_stop 18 at u

  forgets_append : (at ch : ℕ) (n : D.Number) (u : Budget) → Forgets (append_post at ch n u) (append_post at ch n (forget_in u))
  forgets_append at ch n (budget c d zero l) = record { same = refl }
  forgets_append at ch n (budget c d (suc r) l) = record { same = refl }

  forgets_post : (at ch : ℕ) (allowed : Bool) (o : Option Event) (v : ValueOf D) (u : Budget)
      → Forgets (post_value at ch allowed o v u) (post_value at ch allowed none v (forget_in u))
  forgets_post at ch allowed o (num n) u =
      forgets_decided allowed _ _ _ _ o u (λ w. forgets_append at ch n w) (λ w. forgets_stop 17 at w)
  forgets_post at ch allowed o (bool b) u = forgets_stop 18 at u
  forgets_post at ch allowed o (closure r ty body env) u = forgets_stop 18 at u

  forgets_cell : (at : ℕ) (k l : Budget → ResultOf D) → ((u : Budget) → Forgets (k u) (l (forget_in u))) → (u : Budget)
      → Forgets (take_cell at k u) (take_cell at l (forget_in u))
  forgets_cell at k l h (budget c zero r log) = forgets_stop 21 at (budget c zero r log)
  forgets_cell at k l h (budget c (suc d) r log) = h (budget c d r log)

  forgets_begin : (at : ℕ) (k l : Budget → ResultOf D) → ((u : Budget) → Forgets (k u) (l (forget_in u))) → (u : Budget)
      → Forgets (begin_call at k u) (begin_call at l (forget_in u))
  forgets_begin at k l h (budget zero d r log) = forgets_stop 20 at (budget zero d r log)
  forgets_begin at k l h (budget (suc c) zero r log) = forgets_stop 21 at (budget (suc c) zero r log)
  forgets_begin at k l h (budget (suc c) (suc d) r log) = h (budget c d r log)

  forgets_deep : (at : ℕ) (v : ValueOf D) (u : Budget) → Forgets (too_deep at v u) (too_deep at v (forget_in u))
  forgets_deep at (closure r ty body env) u = forgets_stop 19 at u
  forgets_deep at (bool b) u = forgets_stop 18 at u
  forgets_deep at (num n) u = forgets_stop 18 at u

  forgets_enter : (at : ℕ) (v w : ValueOf D) (k l : Term → EnvOf D → Budget → ResultOf D)
      → ((c : Term) (e : EnvOf D) (u : Budget) → Forgets (k c e u) (l c e (forget_in u)))
      → (u : Budget) → Forgets (enter at v w k u) (enter at v w l (forget_in u))
  forgets_enter at (closure r ty body env) w k l h u = forgets_begin at _ (l body (entered {D = D} r ty body env w)) (λ x. h body (entered r ty body env w) x) u
  forgets_enter at (bool b) w k l h u = forgets_stop 18 at u
  forgets_enter at (num n) w k l h u = forgets_stop 18 at u

-- ---- evaluations
module _ (I : Interpretation) (X : Control) (M : Mode) where
  abbrev PlainMode : Mode
  PlainMode = plain M.enforce

  abbrev ForgetsAll : Application I X → Application I X → Type 0
  ForgetsAll f g = (at : ℕ) (v w : ValueOf I.domain) (st : X.State) (u : Budget) → Forgets (f at v w st u) (g at v w st (forget_in u))

  eval_forgets : (f g : Application I X) → ForgetsAll f g → (c : Term) (st : X.State) (e : EnvOf I.domain) (u : Budget)
      → Forgets (eval_with I X M f c st e u) (eval_with I X PlainMode g c st e (forget_in u))
  unfolding eval_with
  eval_forgets f g h (boolean at b) st e u = forgets_end (bool (I.domain.truth b)) u
  eval_forgets f g h (number at n) st e u = forgets_end (num (I.literal at n)) u
  eval_forgets f g h (variable at i) st e u = forgets_found at (lookup e i) u
  eval_forgets f g h (function at ty body) st e u = forgets_end (closure false ty body e) u
  eval_forgets f g h (letrec at ty body rest) st e u =
      forgets_cell at _ (λ w. eval_with I X PlainMode g rest st (bind (closure true ty body e) e) w)
      (λ w. eval_forgets f g h rest st (bind (closure true ty body e) e) w) u
  eval_forgets f g h (call at c a) st e u =
      forgets_then _ _ _ _ (eval_forgets f g h c st e u) (λ v w. forgets_then _ _ _ _ (eval_forgets f g h a st e w) (λ x y. h at v x st y))
  eval_forgets f g h (if at c y n) st e u =
      forgets_then _ _ _ _ (eval_forgets f g h c st e u)
      (λ v w. forgets_branch at v _ _ _ _ w (λ x. eval_forgets f g h y st e x) (λ x. eval_forgets f g h n st e x))
  eval_forgets f g h (check at p c) st e u =
      forgets_decided (passes M.enforce (X.grants st p)) _ _ _ _ (event_if (lists_checks M) at (X.grants st) (some p)) u
      (λ w. eval_forgets f g h c st e w) (λ w. forgets_stop 17 at w)
  eval_forgets f g h (enable at p c) st e u = eval_forgets f g h c (X.enables p st) e u
  eval_forgets f g h (sign at n c) st e u = eval_forgets f g h c (X.signs n st) e u
  eval_forgets f g h (test at p y n) st e u =
      forgets_decided (X.grants st p) _ _ _ _ (event_if M.tracing at (X.grants st) (some p)) u
      (λ w. eval_forgets f g h y st e w) (λ w. eval_forgets f g h n st e w)
  eval_forgets f g h (binary at op a b) st e u =
      forgets_then _ _ _ _ (eval_forgets f g h a st e u)
      (λ v w. forgets_then _ _ _ _ (eval_forgets f g h b st e w) (λ x y. forgets_compute at op v x y))
  eval_forgets f g h (post at ch p c) st e u =
      forgets_then _ _ _ _ (eval_forgets f g h c st e u) (λ v w. forgets_post at ch _ _ v w)

  apply_forgets : (k : ℕ) → ForgetsAll (apply I X M k) (apply I X PlainMode k)
  unfolding apply
  apply_forgets zero at v w st u = forgets_deep at v u
  apply_forgets (suc k) at v w st u =
      forgets_enter at v w _ _ (λ body e x. eval_forgets (apply I X M k) (apply I X PlainMode k) (apply_forgets k) body st e x) u

  pub forgets : (depth : ℕ) (c : Term) (st : X.State) (e : EnvOf I.domain) (u : Budget)
      → forget (eval I X M depth c st e u) ≡ eval I X (plain M.enforce) depth c st e (forget_in u)
  unfolding eval
  forgets k c st e u = (eval_forgets (apply I X M k) (apply I X PlainMode k) (apply_forgets k) c st e u).same

-- ---- the evaluation of a request
pub evaluation_forgets : (M : Mode) (r : Runner) (s : List ℕ) (q : Request) (z : Sizes)
    → forget (evaluation_in M r s q z) ≡ evaluation_in (plain M.enforce) r s q z
evaluation_forgets M eager s q z =
    forgets standard (eager_control (authority s)) M q.depth (program s) (rights 0 (privs (authority s) (stack q.start))) empty (initial q z)
evaluation_forgets M lazy s q z = forgets standard (lazy_control (authority s)) M q.depth (program s) (stack q.start) empty (initial q z)

-- ---- the list is no part of what a run tells and leaves
pub outcome_forgotten : {D : Domain} (r : ℕ) (x : ResultOf D) → outcome r x ≡ outcome r (forget x)
outcome_forgotten r (ends (bool b) u) = refl
outcome_forgotten r (ends (num n) u) = refl
outcome_forgotten r (ends (closure a ty body env) u) = refl
outcome_forgotten r (stops c at u) = refl

pub counts_forgotten : {D : Domain} (q : Request) (z : Sizes) (x : ResultOf D) → counts q z (left x) ≡ counts q z (left (forget x))
counts_forgotten q z (ends v (budget c d r l)) = refl
counts_forgotten q z (stops k at (budget c d r l)) = refl

pub posts_forgotten : {D : Domain} (x : ResultOf D) → in_order (left x) ≡ in_order (left (forget x))
posts_forgotten (ends v (budget c d r l)) = refl
posts_forgotten (stops k at (budget c d r l)) = refl
