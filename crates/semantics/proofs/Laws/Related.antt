-- Two runs of related terms, with types and terms renumbered in the second: values that differ in the bodies and types of closures alone, and results that
-- end in such values or stop by the same cause at the renumbered term, with the same left of the budget. Each way of putting results together keeps this.
-- W9's lean sheet and W14's other numbers are related so, each by a relation of terms.
use Rattle.std.specs.Prelude.{Bool, true, false, ◌≡◌, refl, ℕ, zero, suc}
use Rattle.std.proofs.Math.Option.{none}
use Rattle.std.proofs.Common.{subst}
use Rattle.program.specs.Terms.{Op, sum, difference, less, Term}
use Rattle.semantics.specs.Values.{Value, bool, num, closure, Env, empty, bind, lookup, entered, Budget, budget, Result, ends, stops}
use Rattle.semantics.specs.Meaning.{◌then◌, choose, variable_value, branch, operate, compute, append_post, post_value, take_cell, begin_call, too_deep, enter}

-- C relates bodies, and ρ renumbers types
mutual
  pub data RelatedValue (C : Term → Term → Type 0) (ρ : ℕ → ℕ) : Value → Value → Type 0 where
    v_bool : {b : Bool} → RelatedValue C ρ (bool b) (bool b)
    v_num : {n : ℕ} → RelatedValue C ρ (num n) (num n)
    v_closure : {r : Bool} {ty : ℕ} {c c' : Term} {e e' : Env} → C c c' → RelatedEnv C ρ e e'
        → RelatedValue C ρ (closure r ty c e) (closure r (ρ ty) c' e')

  pub data RelatedEnv (C : Term → Term → Type 0) (ρ : ℕ → ℕ) : Env → Env → Type 0 where
    env_empty : RelatedEnv C ρ empty empty
    env_bind : {v w : Value} {e e' : Env} → RelatedValue C ρ v w → RelatedEnv C ρ e e' → RelatedEnv C ρ (bind v e) (bind w e')

-- ν renumbers terms
pub data RelatedResult (C : Term → Term → Type 0) (ρ ν : ℕ → ℕ) : Result → Result → Type 0 where
  r_ends : {v w : Value} {u : Budget} → RelatedValue C ρ v w → RelatedResult C ρ ν (ends v u) (ends w u)
  r_stops : {c at : ℕ} {u : Budget} → RelatedResult C ρ ν (stops c at u) (stops c (ν at) u)

module _ (C : Term → Term → Type 0) (ρ ν : ℕ → ℕ) where
  abbrev Like : Result → Result → Type 0
  Like x y = RelatedResult C ρ ν x y

  abbrev LikeValue : Value → Value → Type 0
  LikeValue v w = RelatedValue C ρ v w

  pub related_then : {x y : Result} (k l : Value → Budget → Result) → Like x y → ((v w : Value) → LikeValue v w → (u : Budget) → Like (k v u) (l w u))
      → Like (x then k) (y then l)
  related_then k l (r_ends {v} {w} {u} h) f = f v w h u
  related_then k l r_stops f = r_stops

  pub related_choose : {b d : Bool} → b ≡ d → (y y' n n' : Budget → Result) (u : Budget) → Like (y u) (y' u) → Like (n u) (n' u)
      → Like (choose b y n u) (choose d y' n' u)
  related_choose {b} {d} e y y' n n' u hy hn = subst (λ (z : Bool). Like (choose b y n u) (choose z y' n' u)) e (go b)
    where
      go : (b : Bool) → Like (choose b y n u) (choose b y' n' u)
      go true = hy
      go false = hn

  pub related_found : {e e' : Env} → RelatedEnv C ρ e e' → (i at : ℕ) (u : Budget)
      → Like (variable_value at (lookup e i) u) (variable_value (ν at) (lookup e' i) u)
  related_found env_empty i at u = r_stops
  related_found (env_bind v e) zero at u = r_ends v
  related_found (env_bind v e) (suc i) at u = related_found e i at u

  pub related_branch : (at : ℕ) {v w : Value} → LikeValue v w → (y y' n n' : Budget → Result) (u : Budget) → Like (y u) (y' u) → Like (n u) (n' u)
      → Like (branch at v y n u) (branch (ν at) w y' n' u)
  related_branch at (v_bool {b}) y y' n n' u hy hn = related_choose {b = b} refl y y' n n' u hy hn
  related_branch at v_num y y' n n' u hy hn = r_stops
  related_branch at (v_closure c e) y y' n n' u hy hn = r_stops

  related_operate : (op : Op) (m n : ℕ) → LikeValue (operate op m n) (operate op m n)
  related_operate sum m n = v_num
  related_operate difference m n = v_num
  related_operate less m n = v_bool

  pub related_compute : (at : ℕ) (op : Op) {v v' w w' : Value} → LikeValue v v' → LikeValue w w' → (u : Budget)
      → Like (compute at op v w u) (compute (ν at) op v' w' u)
  related_compute at op (v_num {n = m}) (v_num {n = n}) u = r_ends (related_operate op m n)
  related_compute at op v_num v_bool u = r_stops
  related_compute at op v_num (v_closure c e) u = r_stops
  related_compute at op v_bool w u = r_stops
  related_compute at op (v_closure c e) w u = r_stops

  related_append : (at ch n : ℕ) (u : Budget) → Like (append_post at ch n u) (append_post (ν at) ch n u)
  related_append at ch n (budget c d zero l) = r_stops
  related_append at ch n (budget c d (suc r) l) = r_ends v_num

  pub related_post : (at ch : ℕ) {b d : Bool} → b ≡ d → {v w : Value} → LikeValue v w → (u : Budget)
      → Like (post_value at ch b none v u) (post_value (ν at) ch d none w u)
  related_post at ch e (v_num {n}) u = related_choose e _ _ _ _ u (related_append at ch n u) r_stops
  related_post at ch e v_bool u = r_stops
  related_post at ch e (v_closure c f) u = r_stops

  pub related_cell : (at : ℕ) (k l : Budget → Result) → ((u : Budget) → Like (k u) (l u)) → (u : Budget) → Like (take_cell at k u) (take_cell (ν at) l u)
  related_cell at k l h (budget c zero r g) = r_stops
  related_cell at k l h (budget c (suc d) r g) = h (budget c d r g)

  related_begin : (at : ℕ) (k l : Budget → Result) → ((u : Budget) → Like (k u) (l u)) → (u : Budget) → Like (begin_call at k u) (begin_call (ν at) l u)
  related_begin at k l h (budget zero d r g) = r_stops
  related_begin at k l h (budget (suc c) zero r g) = r_stops
  related_begin at k l h (budget (suc c) (suc d) r g) = h (budget c d r g)

  pub related_deep : (at : ℕ) {v w : Value} → LikeValue v w → (u : Budget) → Like (too_deep at v u) (too_deep (ν at) w u)
  related_deep at v_bool u = r_stops
  related_deep at v_num u = r_stops
  related_deep at (v_closure c e) u = r_stops

  related_entered : (r : Bool) (ty : ℕ) {c c' : Term} {e e' : Env} {v w : Value} → C c c' → RelatedEnv C ρ e e' → LikeValue v w
      → RelatedEnv C ρ (entered r ty c e v) (entered r (ρ ty) c' e' w)
  related_entered true ty c e v = env_bind v (env_bind (v_closure c e) e)
  related_entered false ty c e v = env_bind v e

  pub related_enter : (at : ℕ) {v v' w w' : Value} → LikeValue v v' → LikeValue w w' → (k l : Term → Env → Budget → Result)
      → ((c c' : Term) (e e' : Env) → C c c' → RelatedEnv C ρ e e' → (u : Budget) → Like (k c e u) (l c' e' u))
      → (u : Budget) → Like (enter at v w k u) (enter (ν at) v' w' l u)
  related_enter at (v_closure {r} {ty} c e) w k l h u = related_begin at _ _ (λ u₁. h _ _ _ _ c (related_entered r ty c e w) u₁) u
  related_enter at v_bool w k l h u = r_stops
  related_enter at v_num w k l h u = r_stops
