-- Safety and the removal of checks, at once: a derived term, run eagerly in a state that grants its needs, gives the same result with checks in
-- force and passed over; it ends in a value of its type, or is stopped by 19 to 22. This is 003's Lemmas 4.5 and 6.6. Only checks and guards are passed
-- over, and not enables, so that both runs have the same state and terms with tests are covered too.
use Rattle.std.specs.Prelude.{Bool, cond, List, [], ◌∷◌, ◌≡◌}
use Rattle.std.proofs.Math.Bool.{true, false}
use Rattle.std.proofs.Common.{true≢false, sym, ap, ◌∙◌, arith}
use Rattle.std.proofs.Math.Option.{Option, none, some, some-injective}
use Rattle.std.proofs.Math.Path.{refl, subst}
use Prim.Native.Nat.{ℕ, zero, suc}
use Rattle.privileges.specs.Sets.{has, meet, union, insert, remove, ◌⊆◌}
use Rattle.privileges.specs.Laws.{⊆_trans, ⊆_union_left, ⊆_union_right, ⊆_meet, ⊆_insert, has_inserted, remove_has, remove_insert}
use Rattle.program.specs.Layout.{Types}
use Rattle.program.specs.Terms.{Op, sum, difference, less, Term, sign}
use Rattle.program.proofs.Laws.Trees.{Signed, signed, Standard}
use Rattle.typing.specs.Subtyping.{Subtype, sub_same, Wider}
use Rattle.typing.specs.Rules.{lookup_type, remove_authorised, post_needs, result_type, current, Derives, d_boolean, d_number, d_variable, d_function, d_letrec, d_call, d_if, d_test, d_check, d_enable, d_sign, d_binary, d_post, d_widen}
use Rattle.typing.proofs.Laws.Variants.{guard_needed}
use Rattle.typing.proofs.Laws.Subtyping.{sub_trans, sub_base, sub_is_fun, sub_arg, sub_res, sub_latent, wider_bounds}
use Rattle.semantics.specs.Domains.{standard}
use Rattle.semantics.specs.Values.{Value, bool, num, closure, Env, empty, bind, lookup, entered, Budget, budget, Result, ends, stops}
use Rattle.semantics.specs.Meaning.{plain, ◌then◌, choose, variable_value, branch, operate, compute, append_post, post_value, take_cell, begin_call, too_deep, enter, guard_passes, Evaluation, Application, eval_with, apply, eval}
use Rattle.semantics.specs.Access.{rights, add_authorised, eager_control}
use Rattle.soundness.specs.Claims.{Limit}

-- ---- a signed term does not ask who signs around it
sign_any : {T : Types} {A : ℕ → ℕ} {Γ : List ℕ} {n at k : ℕ} {c : Term} {τ N : ℕ} → Derives current T A Γ n (sign at k c) τ N
    → (m : ℕ) → Derives current T A Γ m (sign at k c) τ N
sign_any (d_sign d s) m = d_sign d s
sign_any (d_widen d s) m = d_widen (sign_any d m) s

body_any : {T : Types} {A : ℕ → ℕ} {Γ : List ℕ} {n : ℕ} {c : Term} {τ N : ℕ} → Signed c → Derives current T A Γ n c τ N
    → (m : ℕ) → Derives current T A Γ m c τ N
body_any signed d m = sign_any d m

-- ---- enabling covers what an enable takes from the needs
removed_added : (A : ℕ → ℕ) (n p N P : ℕ) → remove_authorised A n p N ⊆ P → N ⊆ add_authorised A n p P
unfolding remove_authorised add_authorised
removed_added A n p N P h = go (has p (A n)) h
  where
    go : (b : Bool) → cond b (remove p N) N ⊆ P → N ⊆ cond b (insert p P) P
    go true f = remove_insert p N P f
    go false f = f

-- ---- a post's needs cover its child's and its guard
child_needs : (g : Option ℕ) (N P : ℕ) → post_needs g N ⊆ P → N ⊆ P
child_needs none N P h = h
child_needs (some p) N P h = ⊆_trans (⊆_insert p N) h

guard_granted : (g : Option ℕ) (N P : ℕ) → post_needs g N ⊆ P → guard_passes true (λ p. has p P) g ≡ true
guard_granted none N P h = refl
guard_granted (some p) N P h = h.all p (guard_needed p N)

guard_skipped : (g : Option ℕ) (P : ℕ) → guard_passes false (λ p. has p P) g ≡ true
guard_skipped none P = refl
guard_skipped (some p) P = refl

none≢some : {t : ℕ} {A : Type 0} → none ≡ some t → A
none≢some e = absurd (let z : ◌≡◌ {A = ℕ} 0 1 = cc in omega arith)

-- the types below 2 are no functions
pub record Base (T : Types) : Type 0 where
  pub bool_base : T.is_fun 0 ≡ false
  pub num_base : T.is_fun 1 ≡ false

module _ (T : Types) (A : ℕ → ℕ) (base : Base T) where
  -- ---- values by their types
  abbrev inner : Bool → ℕ → List ℕ → List ℕ
  inner true ty Γ = T.arg ty ∷ ty ∷ Γ
  inner false ty Γ = T.arg ty ∷ Γ

  pub record Closed (recursive : Bool) (ty : ℕ) (body : Term) (EnvTyped : List ℕ → Type 0) (τ : ℕ) : Type 0 where
    pub Γ : List ℕ
    pub N : ℕ
    pub function : T.is_fun ty ≡ true
    pub holds : EnvTyped Γ
    pub derives : (n : ℕ) → Derives current T A (inner recursive ty Γ) n body (T.res ty) N
    pub within : N ⊆ T.latent ty
    pub standard : Standard T body
    pub below : Subtype T ty τ

  abbrev mutual
    pub ValueTyped : Value → ℕ → Type 0
    ValueTyped (bool b) τ = τ ≡ 0
    ValueTyped (num n) τ = τ ≡ 1
    ValueTyped (closure r ty body env) τ = Closed r ty body (λ Γ. EnvTyped env Γ) τ

    pub EnvTyped : Env → List ℕ → Type 0
    EnvTyped empty [] = Unit {0}
    EnvTyped empty (τ ∷ Γ) = ⊥
    EnvTyped (bind v e) [] = ⊥
    EnvTyped (bind v e) (τ ∷ Γ) = ValueTyped v τ × EnvTyped e Γ

  not_bool : {A : Type 0} → T.is_fun 0 ≡ true → A
  not_bool h = absurd (true≢false (sym h ∙ base.bool_base))

  not_num : {A : Type 0} → T.is_fun 1 ≡ true → A
  not_num h = absurd (true≢false (sym h ∙ base.num_base))

  widen : (v : Value) {τ σ : ℕ} → ValueTyped v τ → Subtype T τ σ → ValueTyped v σ
  widen (bool b) h f = sub_base T f (ap T.is_fun h ∙ base.bool_base) ∙ h
  widen (num n) h f = sub_base T f (ap T.is_fun h ∙ base.num_base) ∙ h
  widen (closure r ty body env) h f = record {
    Γ = h.Γ;
    N = h.N;
    function = h.function;
    holds = h.holds;
    derives = h.derives;
    within = h.within;
    standard = h.standard;
    below = sub_trans T h.below f;
  }

  num_only : (P : Value → Type 0) → ((n : ℕ) → P (num n)) → (v : Value) → ValueTyped v 1 → P v
  num_only P k (bool b) h = absurd (omega arith)
  num_only P k (num n) h = k n
  num_only P k (closure r ty body env) h = not_num (sub_is_fun T h.below h.function)

  bool_only : (P : Value → Type 0) → ((b : Bool) → P (bool b)) → (v : Value) → ValueTyped v 0 → P v
  bool_only P k (bool b) h = k b
  bool_only P k (num n) h = absurd (omega arith)
  bool_only P k (closure r ty body env) h = not_bool (sub_is_fun T h.below h.function)

  closure_only : (P : Value → Type 0) (φ : ℕ) → T.is_fun φ ≡ true
      → ((r : Bool) (ty : ℕ) (body : Term) (env : Env) → ValueTyped (closure r ty body env) φ → P (closure r ty body env)) → (v : Value) → ValueTyped v φ → P v
  closure_only P φ hf k (bool b) h = not_bool (ap T.is_fun (sym h) ∙ hf)
  closure_only P φ hf k (num n) h = not_num (ap T.is_fun (sym h) ∙ hf)
  closure_only P φ hf k (closure r ty body env) h = k r ty body env h

  -- ---- two results that are the same and safe
  abbrev pub Safe : ℕ → Result → Type 0
  Safe τ (ends v u) = ValueTyped v τ
  Safe τ (stops c at u) = Limit c

  pub record SafelyAlike (τ : ℕ) (x y : Result) : Type 0 where
    pub same : x ≡ y
    pub safe : Safe τ x

  alike_end : (v : Value) (τ : ℕ) (u : Budget) → ValueTyped v τ → SafelyAlike τ (ends v u) (ends v u)
  alike_end v τ u h = record { same = refl; safe = h }

  alike_stop : (c at τ : ℕ) (u : Budget) → Limit c → SafelyAlike τ (stops c at u) (stops c at u)
  alike_stop c at τ u h = record { same = refl; safe = h }

  alike_widen : {τ σ : ℕ} (x y : Result) → Subtype T τ σ → SafelyAlike τ x y → SafelyAlike σ x y
  alike_widen (ends v u) y f g = record { same = g.same; safe = widen v g.safe f }
  alike_widen (stops c at u) y f g = record { same = g.same; safe = g.safe }

  alike_then : {τ σ : ℕ} (x y : Result) (k l : Value → Budget → Result) → SafelyAlike τ x y
      → ((v : Value) (u : Budget) → ValueTyped v τ → SafelyAlike σ (k v u) (l v u))
      → SafelyAlike σ (x then k) (y then l)
  alike_then {τ} {σ} x y k l g h = subst (λ z. SafelyAlike σ (x then k) (z then l)) g.same (go x g.safe)
    where
      go : (z : Result) → Safe τ z → SafelyAlike σ (z then k) (z then l)
      go (ends v u) s = h v u s
      go (stops c at u) s = record { same = refl; safe = s }

  -- a value of either branch's type is one of the wider type
  alike_choose : {τ ρ υ : ℕ} → Wider T τ ρ υ → (b : Bool) (y y' n n' : Budget → Result) (u : Budget) → (b ≡ true → SafelyAlike τ (y u) (y' u))
      → SafelyAlike ρ (n u) (n' u) → SafelyAlike υ (choose b y n u) (choose b y' n' u)
  alike_choose h true y y' n n' u hy hn = alike_widen (y u) (y' u) (wider_bounds T h).0 (hy refl)
  alike_choose h false y y' n n' u hy hn = alike_widen (n u) (n' u) (wider_bounds T h).1 hn

  alike_cell : (τ at : ℕ) (k l : Budget → Result) → ((u : Budget) → SafelyAlike τ (k u) (l u)) → (u : Budget)
      → SafelyAlike τ (take_cell at k u) (take_cell at l u)
  alike_cell τ at k l h (budget c zero r log) = alike_stop 21 at τ _ (omega arith)
  alike_cell τ at k l h (budget c (suc d) r log) = h (budget c d r log)

  alike_begin : (τ at : ℕ) (k l : Budget → Result) → ((u : Budget) → SafelyAlike τ (k u) (l u)) → (u : Budget)
      → SafelyAlike τ (begin_call at k u) (begin_call at l u)
  alike_begin τ at k l h (budget zero d r log) = alike_stop 20 at τ _ (omega arith)
  alike_begin τ at k l h (budget (suc c) zero r log) = alike_stop 21 at τ _ (omega arith)
  alike_begin τ at k l h (budget (suc c) (suc d) r log) = h (budget c d r log)

  alike_append : (at ch x : ℕ) (u : Budget) → SafelyAlike 1 (append_post at ch x u) (append_post at ch x u)
  alike_append at ch x (budget c d zero log) = alike_stop 22 at 1 _ (omega arith)
  alike_append at ch x (budget c d (suc r) log) = alike_end (num x) 1 _ refl

  -- of a number, where the guard passes in both
  alike_post : (at ch : ℕ) {a b : Bool} → a ≡ true → b ≡ true → (v : Value) → ValueTyped v 1 → (u : Budget)
      → SafelyAlike 1 (post_value at ch a none v u) (post_value at ch b none v u)
  alike_post at ch {a} {b} ea eb v h u =
      num_only (λ v. SafelyAlike 1 (post_value at ch a none v u) (post_value at ch b none v u))
      (λ x. subst (λ z. SafelyAlike 1 (post_value at ch z none (num x) u) (post_value at ch b none (num x) u)) (sym ea)
      (subst (λ z. SafelyAlike 1 (append_post at ch x u) (post_value at ch z none (num x) u)) (sym eb) (alike_append at ch x u))) v h

  alike_found : (e : Env) (Γ : List ℕ) (i τ at : ℕ) (u : Budget) → EnvTyped e Γ → lookup_type Γ i ≡ some τ
      → SafelyAlike τ (variable_value at (lookup e i) u) (variable_value at (lookup e i) u)
  alike_found empty [] i τ at u h g = none≢some g
  alike_found empty (t ∷ Γ) i τ at u h g = absurd h
  alike_found (bind v e) [] i τ at u h g = absurd h
  alike_found (bind v e) (t ∷ Γ) zero τ at u h g = record { same = refl; safe = subst (ValueTyped v) (some-injective t τ g) h.0 }
  alike_found (bind v e) (t ∷ Γ) (suc i) τ at u h g = alike_found e Γ i τ at u h.1 g

  operate_type : (op : Op) (x y : ℕ) → ValueTyped (operate op x y) (result_type op)
  operate_type sum x y = refl
  operate_type difference x y = refl
  operate_type less x y = refl

  alike_compute : (at : ℕ) (op : Op) (v w : Value) → ValueTyped v 1 → ValueTyped w 1 → (u : Budget)
      → SafelyAlike (result_type op) (compute at op v w u) (compute at op v w u)
  alike_compute at op v w hv hw u =
      num_only (λ v. SafelyAlike (result_type op) (compute at op v w u) (compute at op v w u))
      (λ x. num_only (λ w. SafelyAlike (result_type op) (compute at op (num x) w u) (compute at op (num x) w u))
      (λ y. alike_end (operate op x y) (result_type op) _ (operate_type op x y)) w hw) v hv

  -- ---- evaluations: one with checks in force, one with checks passed over
  abbrev AlikeApplication : Application standard (eager_control A) → Application standard (eager_control A) → Type 0
  AlikeApplication f g = (at φ : ℕ) (v w : Value) → T.is_fun φ ≡ true → ValueTyped v φ → ValueTyped w (T.arg φ)
      → (n P : ℕ) → T.latent φ ⊆ P → (u : Budget) → SafelyAlike (T.res φ) (f at v w (rights n P) u) (g at v w (rights n P) u)

  abbrev pub AlikeEvaluation : (Γ : List ℕ) (n τ N : ℕ) → Evaluation standard (eager_control A) → Evaluation standard (eager_control A) → Type 0
  AlikeEvaluation Γ n τ N f g = (e : Env) → EnvTyped e Γ → (P : ℕ) → N ⊆ P → (u : Budget) → SafelyAlike τ (f (rights n P) e u) (g (rights n P) e u)

  module _ (f g : Application standard (eager_control A)) (alike-app : AlikeApplication f g) where
    abbrev checked : Term → Evaluation standard (eager_control A)
    checked = eval_with standard (eager_control A) (plain true) f

    abbrev skipped : Term → Evaluation standard (eager_control A)
    skipped = eval_with standard (eager_control A) (plain false) g

    eval_alike : {Γ : List ℕ} {n : ℕ} {c : Term} {τ N : ℕ} → Derives current T A Γ n c τ N → Standard T c
        → AlikeEvaluation Γ n τ N (eval_with standard (eager_control A) (plain true) f c) (eval_with standard (eager_control A) (plain false) g c)
    unfolding eval_with
    eval_alike (d_boolean {b = b}) w e he P hP u = alike_end (bool b) 0 u refl
    eval_alike (d_number {k = k}) w e he P hP u = alike_end (num k) 1 u refl
    eval_alike (d_variable {Γ = Γ} {at = at} {i = i} {τ = τ} h) w e he P hP u = alike_found e Γ i τ at u he h
    eval_alike (d_function {Γ = Γ} {ty = ty} {N = N} {body = body} hf d s) w e he P hP u =
        alike_end (closure false ty body e) ty u
        (record { Γ = Γ; N = N; function = hf; holds = he; derives = λ m. body_any w.1 d m; within = s; standard = w.2; below = sub_same })
    eval_alike (d_letrec {Γ = Γ} {n = n} {at = at} {ty = ty} {N = N} {τ = τ} {M = M} {body = body} {rest = rest} hf d s d') w e he P hP u =
        alike_cell τ at _ _
        (λ u₁. eval_alike d' w.3 (bind (closure true ty body e) e)
        (record { Γ = Γ; N = N; function = hf; holds = he; derives = λ m. body_any w.1 d m; within = s; standard = w.2; below = sub_same }, he)
        P (⊆_trans (⊆_union_right (T.latent ty) M) hP) u₁) u
    eval_alike (d_call {n = n} {at = at} {φ = φ} {N = N} {M = M} {f = fn} {a = a} d d' hf fit) w e he P hP u =
        let hNM : union N M ⊆ P = ⊆_trans (⊆_union_right (T.latent φ) (union N M)) hP in
        alike_then (checked fn (rights n P) e u) (skipped fn (rights n P) e u) _ _ (eval_alike d w.0 e he P (⊆_trans (⊆_union_left N M) hNM) u)
        (λ v u₁ hv. alike_then (checked a (rights n P) e u₁) (skipped a (rights n P) e u₁) _ _
        (eval_alike d' w.1 e he P (⊆_trans (⊆_union_right N M) hNM) u₁)
        (λ x u₂ hx. alike-app at φ v x hf hv (widen x hx fit) n P (⊆_trans (⊆_union_left (T.latent φ) (union N M)) hP) u₂))
    eval_alike (d_if {n = n} {at = at} {υ = υ} {N = N} {M = M} {K = K} {c = c} {y = y} {o = o} d d' d'' h) w e he P hP u =
        let hMK : union M K ⊆ P = ⊆_trans (⊆_union_right N (union M K)) hP in
        alike_then (checked c (rights n P) e u) (skipped c (rights n P) e u) _ _ (eval_alike d w.0 e he P (⊆_trans (⊆_union_left N (union M K)) hP) u)
        (λ v u₁ hv. bool_only
        (λ v. SafelyAlike υ (branch at v (λ x. checked y (rights n P) e x) (λ x. checked o (rights n P) e x) u₁)
        (branch at v (λ x. skipped y (rights n P) e x) (λ x. skipped o (rights n P) e x) u₁))
        (λ b. alike_choose h b _ _ _ _ u₁ (λ _. eval_alike d' w.1 e he P (⊆_trans (⊆_union_left M K) hMK) u₁)
        (eval_alike d'' w.2 e he P (⊆_trans (⊆_union_right M K) hMK) u₁)) v hv)
    -- the yes-branch runs only where p is granted
    eval_alike (d_test {n = n} {p = p} {N = N} {M = M} d d' h) w e he P hP u =
        alike_choose h (has p P) _ _ _ _ u
        (λ granted. eval_alike d w.0 e he P (remove_has p N P (⊆_trans (⊆_union_left (remove p N) M) hP) granted) u)
        (eval_alike d' w.1 e he P (⊆_trans (⊆_union_right (remove p N) M) hP) u)
    eval_alike (d_check {n = n} {at = at} {p = p} {τ = τ} {N = N} {c = c} d) w e he P hP u =
        subst (λ b. SafelyAlike τ (choose b (λ x. checked c (rights n P) e x) (λ x. stops 17 at x) u) (skipped c (rights n P) e u))
        (sym (hP.all p (has_inserted p N)))
        (eval_alike d w e he P (⊆_trans (⊆_insert p N) hP) u)
    eval_alike (d_enable {n = n} {p = p} {N = N} d) w e he P hP u = eval_alike d w e he (add_authorised A n p P) (removed_added A n p N P hP) u
    eval_alike (d_sign {m = m} d s) w e he P hP u = eval_alike d w e he (meet P (A m)) (⊆_meet hP s) u
    eval_alike (d_binary {n = n} {at = at} {N = N} {M = M} {op = op} {a = a} {b = b} d d') w e he P hP u =
        alike_then (checked a (rights n P) e u) (skipped a (rights n P) e u) _ _ (eval_alike d w.0 e he P (⊆_trans (⊆_union_left N M) hP) u)
        (λ v u₁ hv. alike_then (checked b (rights n P) e u₁) (skipped b (rights n P) e u₁) _ _ (eval_alike d' w.1 e he P (⊆_trans (⊆_union_right N M) hP) u₁)
        (λ x u₂ hx. alike_compute at op v x hv hx u₂))
    -- a guard is among the needs, and so it is granted
    eval_alike (d_post {n = n} {at = at} {ch = ch} {N = N} {g = p} {c = c} d) w e he P hP u =
        alike_then (checked c (rights n P) e u) (skipped c (rights n P) e u) _ _ (eval_alike d w e he P (child_needs p N P hP) u)
        (λ v u₁ hv. alike_post at ch (guard_granted p N P hP) (guard_skipped p P) v hv u₁)
    eval_alike (d_widen d s) w e he P hP u = eval_alike d w e he P (⊆_trans s hP) u

  enter_holds : (r : Bool) (ty : ℕ) (body : Term) (env : Env) (φ : ℕ) (h : ValueTyped (closure r ty body env) φ) (w : Value) → ValueTyped w (T.arg ty)
      → EnvTyped (entered r ty body env w) (inner r ty h.Γ)
  enter_holds true ty body env φ h w hw =
      let again : ValueTyped (closure true ty body env) ty = record {
        Γ = h.Γ;
        N = h.N;
        function = h.function;
        holds = h.holds;
        derives = h.derives;
        within = h.within;
        standard = h.standard;
        below = sub_same;
      } in
      (hw, (again, h.holds))
  enter_holds false ty body env φ h w hw = (hw, h.holds)

  apply_alike : (k : ℕ) → AlikeApplication (apply standard (eager_control A) (plain true) k) (apply standard (eager_control A) (plain false) k)
  unfolding apply
  apply_alike zero at φ v w hf hv hw n P hP u =
      closure_only (λ v. SafelyAlike (T.res φ) (too_deep at v u) (too_deep at v u)) φ hf (λ r ty body env h. alike_stop 19 at (T.res φ) u (omega arith)) v hv
  apply_alike (suc k) at φ v w hf hv hw n P hP u =
      closure_only
      (λ v. SafelyAlike (T.res φ)
      (enter at v w (λ body e u₁. eval_with standard (eager_control A) (plain true) (apply standard (eager_control A) (plain true) k) body (rights n P) e u₁) u)
      (enter at v w (λ body e u₁. eval_with standard (eager_control A) (plain false) (apply standard (eager_control A) (plain false) k) body (rights n P) e u₁)
      u))
      φ hf
      (λ r ty body env h. alike_begin (T.res φ) at _ _
      (λ u₁. alike_widen _ _ (sub_res T h.below)
      (eval_alike (apply standard (eager_control A) (plain true) k) (apply standard (eager_control A) (plain false) k) (apply_alike k) (h.derives n)
      h.standard (entered r ty body env w) (enter_holds r ty body env φ h w (widen w hw (sub_arg T h.below)))
      P (⊆_trans h.within (⊆_trans (sub_latent T h.below) hP)) u₁)) u) v hv

  pub checks_removed : (depth : ℕ) {Γ : List ℕ} {n : ℕ} {c : Term} {τ N : ℕ} → Derives current T A Γ n c τ N → Standard T c
      → AlikeEvaluation Γ n τ N (eval standard (eager_control A) (plain true) depth c) (eval standard (eager_control A) (plain false) depth c)
  unfolding eval
  checks_removed k d w = eval_alike (apply standard (eager_control A) (plain true) k) (apply standard (eager_control A) (plain false) k) (apply_alike k) d w
