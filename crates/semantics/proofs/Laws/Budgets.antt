-- What an evaluation does to its budget, over any domain: it only spends. Calls and cells are never given back, and a post takes a place of the list.
use Rattle.std.specs.Prelude.{Bool, false, ◌≡◌, length}
use Rattle.std.proofs.Math.Bool.{true}
use Rattle.std.proofs.Math.Option.{Option, none, some}
use Rattle.std.proofs.Math.Path.{refl}
use Rattle.std.proofs.Common.{sym, ◌∙◌, subst, le_refl, le_trans, arith}
use Prim.Native.Nat.{ℕ, zero, suc, ◌+◌, ◌≤◌}
use Rattle.program.specs.Terms.{Op, Term, boolean, number, variable, function, letrec, call, if, check, enable, sign, test, binary, post}
use Rattle.traces.specs.Traces.{Event}
use Rattle.semantics.specs.Domains.{Domain, Interpretation}
use Rattle.semantics.specs.Values.{ValueOf, bool, num, closure, EnvOf, bind, lookup, entered, Log, log_post, Budget, budget, ResultOf, ends, stops}
use Rattle.semantics.specs.Meaning.{Control, Mode, ◌then◌, choose, variable_value, decided, branch, count_saturated, compute, append_post, note, post_value, take_cell, begin_call, too_deep, enter, passes, event_if, lists_checks, Application, eval_with, apply, eval}
use Rattle.semantics.specs.Runs.{left}

abbrev pub calls_in : Budget → ℕ
calls_in (budget c d r l) = c

abbrev pub cells_in : Budget → ℕ
cells_in (budget c d r l) = d

-- the places of the list, taken or not
abbrev pub places : Budget → ℕ
places (budget c d r l) = r + length l.posts

pub record Spent (u v : Budget) : Type 0 where
  pub calls : calls_in v ≤ calls_in u
  pub cells : cells_in v ≤ cells_in u
  pub posts : places v ≡ places u

pub spent_none : (u : Budget) → Spent u u
spent_none u = record { calls = le_refl (calls_in u); cells = le_refl (cells_in u); posts = refl }

pub spent_trans : {u v w : Budget} → Spent u v → Spent v w → Spent u w
spent_trans a b = record { calls = le_trans b.calls a.calls; cells = le_trans b.cells a.cells; posts = b.posts ∙ a.posts }

-- ---- what an evaluation does to a budget is each time one of six steps, so that a relation which they keep holds of what is left
pub record Steps (D : Domain) (R : Budget → Budget → Type 0) : Type 0 where
  pub stays : (u : Budget) → R u u
  pub follows : {u v w : Budget} → R u v → R v w → R u w
  pub on_cell : (c d r : ℕ) (l : Log) → R (budget c (suc d) r l) (budget c d r l)
  pub on_call : (c d r : ℕ) (l : Log) → R (budget (suc c) (suc d) r l) (budget c d r l)
  pub on_post : (c d r : ℕ) (l : Log) (ch : ℕ) (n : D.Number) → R (budget c d (suc r) l) (budget c d r (log_post (D.entry ch n) l))
  pub on_count : (op : Op) (m n : D.Number) (u : Budget) → R u (count_saturated (D.saturates op m n) u)
  pub on_note : (o : Option Event) (u : Budget) → R u (note o u)

module _ (D : Domain) (R : Budget → Budget → Type 0) (S : Steps D R) where
  record LeavesBudget (u : Budget) (x : ResultOf D) : Type 0 where
    leaves : R u (left x)

  leaves_none : (u : Budget) {x : ResultOf D} → left x ≡ u → LeavesBudget u x
  leaves_none u e = record { leaves = subst (R u) (sym e) (S.stays u) }

  leaves_after : {u w : Budget} {x : ResultOf D} → R u w → LeavesBudget w x → LeavesBudget u x
  leaves_after h a = record { leaves = S.follows h a.leaves }

  leaves_then : (u : Budget) (x : ResultOf D) (k : ValueOf D → Budget → ResultOf D) → LeavesBudget u x → ((v : ValueOf D) (w : Budget) → LeavesBudget w (k v w))
      → LeavesBudget u (x then k)
  leaves_then u (ends v w) k a h = leaves_after a.leaves (h v w)
  leaves_then u (stops c at w) k a h = record { leaves = a.leaves }

  leaves_choose : (b : Bool) (y n : Budget → ResultOf D) (u : Budget) → LeavesBudget u (y u) → LeavesBudget u (n u) → LeavesBudget u (choose b y n u)
  leaves_choose true y n u hy hn = hy
  leaves_choose false y n u hy hn = hn

  leaves_found : (at : ℕ) (o : Option (ValueOf D)) (u : Budget) → LeavesBudget u (variable_value at o u)
  leaves_found at (some v) u = leaves_none u refl
  leaves_found at none u = leaves_none u refl

  leaves_decided : (at : ℕ) (o : Option Bool) (y n : Budget → ResultOf D) (u : Budget) → LeavesBudget u (y u) → LeavesBudget u (n u)
      → LeavesBudget u (decided at o y n u)
  leaves_decided at (some b) y n u hy hn = leaves_choose b y n u hy hn
  leaves_decided at none y n u hy hn = leaves_none u refl

  leaves_branch : (at : ℕ) (v : ValueOf D) (y n : Budget → ResultOf D) (u : Budget) → LeavesBudget u (y u) → LeavesBudget u (n u)
      → LeavesBudget u (branch at v y n u)
  leaves_branch at (bool b) y n u hy hn = leaves_decided at (D.decide b) y n u hy hn
  leaves_branch at (num m) y n u hy hn = leaves_none u refl
  leaves_branch at (closure r ty body env) y n u hy hn = leaves_none u refl

  leaves_compute : (at : ℕ) (op : Op) (v w : ValueOf D) (u : Budget) → LeavesBudget u (compute at op v w u)
  leaves_compute at op (num m) (num n) u = record { leaves = S.on_count op m n u }
  leaves_compute at op (num m) (bool b) u = leaves_none u refl
  leaves_compute at op (num m) (closure r ty body env) u = leaves_none u refl
  leaves_compute at op (bool b) w u = leaves_none u refl
  leaves_compute at op (closure r ty body env) w u = leaves_none u refl

  leaves_append : (at ch : ℕ) (n : D.Number) (u : Budget) → LeavesBudget u (append_post at ch n u)
  leaves_append at ch n (budget c d zero l) = leaves_none (budget c d zero l) refl
  leaves_append at ch n (budget c d (suc r) l) = record { leaves = S.on_post c d r l ch n }

  -- what is decided at a check, test or guard, after it is listed
  leaves_decision : (o : Option Event) (b : Bool) (y n : Budget → ResultOf D) → ((w : Budget) → LeavesBudget w (y w)) → ((w : Budget) → LeavesBudget w (n w))
      → (u : Budget) → LeavesBudget u (choose b y n (note o u))
  leaves_decision o b y n hy hn u = leaves_after (S.on_note o u) (leaves_choose b y n (note o u) (hy (note o u)) (hn (note o u)))

  leaves_post : (at ch : ℕ) (allowed : Bool) (o : Option Event) (v : ValueOf D) (u : Budget) → LeavesBudget u (post_value at ch allowed o v u)
  leaves_post at ch allowed o (num n) u = leaves_decision o allowed _ _ (λ w. leaves_append at ch n w) (λ w. leaves_none w refl) u
  leaves_post at ch allowed o (bool b) u = leaves_none u refl
  leaves_post at ch allowed o (closure r ty body env) u = leaves_none u refl

  leaves_cell : (at : ℕ) (k : Budget → ResultOf D) → ((w : Budget) → LeavesBudget w (k w)) → (u : Budget) → LeavesBudget u (take_cell at k u)
  leaves_cell at k h (budget c zero r l) = leaves_none (budget c zero r l) refl
  leaves_cell at k h (budget c (suc d) r l) = leaves_after (S.on_cell c d r l) (h (budget c d r l))

  leaves_begin : (at : ℕ) (k : Budget → ResultOf D) → ((w : Budget) → LeavesBudget w (k w)) → (u : Budget) → LeavesBudget u (begin_call at k u)
  leaves_begin at k h (budget zero d r l) = leaves_none (budget zero d r l) refl
  leaves_begin at k h (budget (suc c) zero r l) = leaves_none (budget (suc c) zero r l) refl
  leaves_begin at k h (budget (suc c) (suc d) r l) = leaves_after (S.on_call c d r l) (h (budget c d r l))

  leaves_deep : (at : ℕ) (v : ValueOf D) (u : Budget) → LeavesBudget u (too_deep at v u)
  leaves_deep at (closure r ty body env) u = leaves_none u refl
  leaves_deep at (bool b) u = leaves_none u refl
  leaves_deep at (num n) u = leaves_none u refl

  leaves_enter : (at : ℕ) (v w : ValueOf D) (run : Term → EnvOf D → Budget → ResultOf D)
      → ((c : Term) (e : EnvOf D) (x : Budget) → LeavesBudget x (run c e x)) → (u : Budget) → LeavesBudget u (enter at v w run u)
  leaves_enter at (closure r ty body env) w run h u = leaves_begin at _ (λ x. h body (entered r ty body env w) x) u
  leaves_enter at (bool b) w run h u = leaves_none u refl
  leaves_enter at (num n) w run h u = leaves_none u refl

-- L is what number terms stand for
module _ (D : Domain) (R : Budget → Budget → Type 0) (S : Steps D R) (L : (at n : ℕ) → D.Number) (X : Control) (M : Mode) where
  abbrev I : Interpretation
  I = record { domain = D; literal = L }

  abbrev LeavesAll : Application I X → Type 0
  LeavesAll f = (at : ℕ) (v w : ValueOf D) (st : X.State) (u : Budget) → LeavesBudget D R S u (f at v w st u)

  eval_leaves : (f : Application I X) → LeavesAll f → (c : Term) (st : X.State) (e : EnvOf D) (u : Budget) → LeavesBudget D R S u (eval_with I X M f c st e u)
  unfolding eval_with
  eval_leaves f h (boolean at b) st e u = leaves_none D R S u refl
  eval_leaves f h (number at n) st e u = leaves_none D R S u refl
  eval_leaves f h (variable at i) st e u = leaves_found D R S at (lookup e i) u
  eval_leaves f h (function at ty body) st e u = leaves_none D R S u refl
  eval_leaves f h (letrec at ty body rest) st e u = leaves_cell D R S at _ (λ w. eval_leaves f h rest st (bind (closure true ty body e) e) w) u
  eval_leaves f h (call at c a) st e u =
      leaves_then D R S u _ _ (eval_leaves f h c st e u) (λ v w. leaves_then D R S w _ _ (eval_leaves f h a st e w) (λ x y. h at v x st y))
  eval_leaves f h (if at c y n) st e u =
      leaves_then D R S u _ _ (eval_leaves f h c st e u) (λ v w. leaves_branch D R S at v _ _ w (eval_leaves f h y st e w) (eval_leaves f h n st e w))
  eval_leaves f h (check at p c) st e u =
      leaves_decision D R S (event_if (lists_checks M) at (X.grants st) (some p)) (passes M.enforce (X.grants st p)) _ _
      (λ w. eval_leaves f h c st e w) (λ w. leaves_none D R S w refl) u
  eval_leaves f h (enable at p c) st e u = eval_leaves f h c (X.enables p st) e u
  eval_leaves f h (sign at n c) st e u = eval_leaves f h c (X.signs n st) e u
  eval_leaves f h (test at p y n) st e u =
      leaves_decision D R S (event_if M.tracing at (X.grants st) (some p)) (X.grants st p) _ _
      (λ w. eval_leaves f h y st e w) (λ w. eval_leaves f h n st e w) u
  eval_leaves f h (binary at op a b) st e u =
      leaves_then D R S u _ _ (eval_leaves f h a st e u) (λ v w. leaves_then D R S w _ _ (eval_leaves f h b st e w) (λ x y. leaves_compute D R S at op v x y))
  eval_leaves f h (post at ch g c) st e u =
      leaves_then D R S u _ _ (eval_leaves f h c st e u) (λ v w. leaves_post D R S at ch _ _ v w)

  apply_leaves : (k : ℕ) → LeavesAll (apply I X M k)
  unfolding apply
  apply_leaves zero at v w st u = leaves_deep D R S at v u
  apply_leaves (suc k) at v w st u = leaves_enter D R S at v w _ (λ body e x. eval_leaves (apply I X M k) (apply_leaves k) body st e x) u

  pub leaves_related : (depth : ℕ) (c : Term) (st : X.State) (e : EnvOf D) (u : Budget) → R u (left (eval I X M depth c st e u))
  unfolding eval
  leaves_related k c st e u = (eval_leaves (apply I X M k) (apply_leaves k) c st e u).leaves

-- ---- over every domain an evaluation only spends
spent_steps : (D : Domain) → Steps D Spent
spent_steps D = record {
  stays = spent_none;
  follows = spent_trans;
  on_cell = λ c d r l. record { calls = le_refl c; cells = omega arith; posts = refl };
  on_call = λ c d r l. record { calls = omega arith; cells = omega arith; posts = refl };
  on_post = λ c d r l ch n. record { calls = le_refl c; cells = le_refl d; posts = omega arith };
  on_count = λ op m n u. counted (D.saturates op m n) u;
  on_note = noted;
}
  where
    counted : (b : Bool) (u : Budget) → Spent u (count_saturated b u)
    counted b (budget c d r l) = record { calls = le_refl c; cells = le_refl d; posts = refl }

    noted : (o : Option Event) (u : Budget) → Spent u (note o u)
    noted none u = spent_none u
    noted (some e) (budget c d r l) = record { calls = le_refl c; cells = le_refl d; posts = refl }

pub spends : (I : Interpretation) (X : Control) (M : Mode) (depth : ℕ) (c : Term) (st : X.State) (e : EnvOf I.domain) (u : Budget)
    → Spent u (left (eval I X M depth c st e u))
spends I X M depth c st e u = leaves_related I.domain Spent (spent_steps I.domain) I.literal X M depth c st e u
