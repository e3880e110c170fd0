-- The relational lemma: two access controls whose related states stay related and grant the same of every privilege that is named give a term the same
-- result, with every budget, checks in force or passed over, and the same list of decisions with it. Named are the privileges of the checks, tests and guards
-- of the term and of the bodies in its environment; an enable names none. 003's Lemma 5.3 is the instance of two eager states that differ in one privilege.
use Rattle.std.specs.Prelude.{Bool, false, ◌≡◌}
use Rattle.std.proofs.Math.Bool.{true}
use Rattle.std.proofs.Math.Option.{Option, none, some}
use Rattle.std.proofs.Math.Path.{refl}
use Rattle.std.proofs.Common.{subst}
use Prim.Native.Nat.{ℕ, zero, suc}
use Rattle.program.specs.Terms.{Term, boolean, number, variable, function, letrec, call, if, check, enable, sign, test, binary, post, Every}
use Rattle.semantics.specs.Names.{named_by}
use Rattle.semantics.specs.Domains.{standard}
use Rattle.semantics.specs.Values.{Value, bool, num, closure, Env, bind, entered, Budget, Result, ends, stops}
use Rattle.semantics.specs.Meaning.{Control, Mode, ◌then◌, choose, branch, compute, note, post_value, take_cell, begin_call, passes, guard_passes, event_if, lists_checks, Evaluation, Application, eval_with, apply, eval}
use Rattle.semantics.proofs.Laws.Bodies.{EveryBody, EveryBodyIn, Bodies, bodies_end, entered_bodies, BodiesAll, eval_bodies, apply_bodies}

-- a term that itself names a privilege of P, if any
abbrev pub NamesOnly : (ℕ → Type 0) → Term → Type 0
NamesOnly P c = (p : ℕ) → named_by c ≡ some p → P p

-- a relation of states that signs and enables keep, and under which the same is granted of the privileges of P
pub record Simulation (P : ℕ → Type 0) (X Y : Control) : Type 1 where
  pub related : X.State → Y.State → Type 0
  pub on_sign : (n : ℕ) (s : X.State) (t : Y.State) → related s t → related (X.signs n s) (Y.signs n t)
  pub on_enable : (p : ℕ) (s : X.State) (t : Y.State) → related s t → related (X.enables p s) (Y.enables p t)
  pub same_grants : (s : X.State) (t : Y.State) → related s t → (p : ℕ) → P p → X.grants s p ≡ Y.grants t p

-- results that are the same go on alike, with a value whose bodies have Q
then_same : (Q : Term → Type 0) (x y : Result) (k l : Value → Budget → Result) → x ≡ y → Bodies Q x
    → ((v : Value) (u : Budget) → EveryBody Q v → k v u ≡ l v u) → (x then k) ≡ (y then l)
then_same Q x y k l e b h = subst (λ z. (x then k) ≡ (z then l)) e (go x b)
  where
    go : (z : Result) → Bodies Q z → (z then k) ≡ (z then l)
    go (ends v u) (bodies_end hv) = h v u hv
    go (stops c at u) b = refl

module _ (P : ℕ → Type 0) (X Y : Control) (R : Simulation P X Y) (M : Mode) where
  abbrev Q : Term → Type 0
  Q = NamesOnly P

  abbrev SameApplication : Application standard X → Application standard Y → Type 0
  SameApplication f g = (at : ℕ) (v w : Value) → EveryBody Q v → EveryBody Q w → (s : X.State) (t : Y.State) → R.related s t → (u : Budget)
      → f at v w s u ≡ g at v w t u

  abbrev SameEvaluation : Evaluation standard X → Evaluation standard Y → Type 0
  SameEvaluation f g = (s : X.State) (t : Y.State) → R.related s t → (e : Env) → EveryBodyIn Q e → (u : Budget) → f s e u ≡ g t e u

  -- a guard passes in both or in neither
  same_guard : (s : X.State) (t : Y.State) → R.related s t → (g : Option ℕ) → ((p : ℕ) → g ≡ some p → P p)
      → guard_passes M.enforce (X.grants s) g ≡ guard_passes M.enforce (Y.grants t) g
  same_guard s t r none n = refl
  same_guard s t r (some p) n = λ i. passes M.enforce (R.same_grants s t r p (n p refl) i)

  -- and the same is listed of it
  same_event : (listed : Bool) (at : ℕ) (s : X.State) (t : Y.State) → R.related s t → (g : Option ℕ) → ((p : ℕ) → g ≡ some p → P p)
      → event_if listed at (X.grants s) g ≡ event_if listed at (Y.grants t) g
  same_event true at s t r (some p) n = λ i. some record { term = at; privilege = p; decided = R.same_grants s t r p (n p refl) i }
  same_event true at s t r none n = refl
  same_event false at s t r g n = refl

  module _ (f : Application standard X) (g : Application standard Y) (h : SameApplication f g) (a : BodiesAll Q standard X M f) where
    eval_agree : (c : Term) → Every Q c → SameEvaluation (eval_with standard X M f c) (eval_with standard Y M g c)
    unfolding eval_with
    eval_agree (boolean at b) n s t r e d u = refl
    eval_agree (number at k) n s t r e d u = refl
    eval_agree (variable at i) n s t r e d u = refl
    eval_agree (function at ty body) n s t r e d u = refl
    eval_agree (letrec at ty body rest) n s t r e d u =
        λ i. take_cell at (λ u₁. eval_agree rest n.2 s t r (bind (closure true ty body e) e) ((n.1, d), d) u₁ i) u
    eval_agree (call at c b) n s t r e d u =
        then_same Q _ _ _ _ (eval_agree c n.1 s t r e d u) (eval_bodies Q standard X M f a c n.1 s e u d)
        (λ v u₁ hv. then_same Q _ _ _ _ (eval_agree b n.2 s t r e d u₁) (eval_bodies Q standard X M f a b n.2 s e u₁ d)
        (λ w u₂ hw. h at v w hv hw s t r u₂))
    eval_agree (if at c y o) n s t r e d u =
        λ i. eval_agree c n.1 s t r e d u i
        then λ v u₁. branch at v (λ u₂. eval_agree y n.2 s t r e d u₂ i) (λ u₂. eval_agree o n.3 s t r e d u₂ i) u₁
    eval_agree (check at p c) n s t r e d u =
        λ i. choose (passes M.enforce (R.same_grants s t r p (n.0 p refl) i)) (λ u₁. eval_agree c n.1 s t r e d u₁ i) (λ u₁. stops 17 at u₁)
        (note (same_event (lists_checks M) at s t r (some p) n.0 i) u)
    eval_agree (enable at p c) n s t r e d u = eval_agree c n.1 (X.enables p s) (Y.enables p t) (R.on_enable p s t r) e d u
    eval_agree (sign at m c) n s t r e d u = eval_agree c n.1 (X.signs m s) (Y.signs m t) (R.on_sign m s t r) e d u
    eval_agree (test at p y o) n s t r e d u =
        λ i. choose (R.same_grants s t r p (n.0 p refl) i) (λ u₁. eval_agree y n.1 s t r e d u₁ i) (λ u₁. eval_agree o n.2 s t r e d u₁ i)
        (note (same_event M.tracing at s t r (some p) n.0 i) u)
    eval_agree (binary at op c b) n s t r e d u =
        λ i. eval_agree c n.1 s t r e d u i then λ v u₁. eval_agree b n.2 s t r e d u₁ i then λ w u₂. compute at op v w u₂
    eval_agree (post at ch q c) n s t r e d u =
        λ i. eval_agree c n.1 s t r e d u i then λ v u₁. post_value at ch (same_guard s t r q n.0 i) (same_event (lists_checks M) at s t r q n.0 i) v u₁

  apply_agree : (k : ℕ) → SameApplication (apply standard X M k) (apply standard Y M k)
  unfolding apply
  apply_agree zero at v w hv hw s t r u = refl
  apply_agree (suc k) at (closure z ty body env) w hv hw s t r u =
      λ i. begin_call at (λ u₁. eval_agree (apply standard X M k) (apply standard Y M k) (apply_agree k) (apply_bodies Q standard X M k) body hv.0 s t r
      (entered z ty body env w) (entered_bodies Q z ty body env w hv.0 hv.1 hw) u₁ i) u
  apply_agree (suc k) at (bool b) w hv hw s t r u = refl
  apply_agree (suc k) at (num m) w hv hw s t r u = refl

  pub agree : (depth : ℕ) (c : Term) → Every Q c → (s : X.State) (t : Y.State) → R.related s t → (e : Env) → EveryBodyIn Q e → (u : Budget)
      → eval standard X M depth c s e u ≡ eval standard Y M depth c t e u
  unfolding eval
  agree k c = eval_agree (apply standard X M k) (apply standard Y M k) (apply_agree k) (apply_bodies Q standard X M k) c
