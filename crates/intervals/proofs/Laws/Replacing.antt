-- Terms that differ in their numbers alone run alike: the first with its number terms standing for what is chosen, the second, which has those numbers, as it
-- is. They end in values that differ in the bodies of closures alone, or stop by the same cause at the same term, with the same left of the budget. The two
-- access controls need agree on the principals that sign alone: those below a count.
use Rattle.std.specs.Prelude.{Bool, true, ◌&&◌, ◌||◌, List, [], ◌∷◌, ◌≡◌, refl}
use Rattle.std.proofs.Math.Bool.{cond}
use Rattle.std.proofs.Math.Option.{Option, none, some}
use Rattle.std.proofs.Common.{◌∙◌, ltb-true, lt-ltb}
use Prim.Native.Nat.{ℕ, zero, suc, ◌<◌}
use Rattle.privileges.specs.Sets.{has, meet, union, insert}
use Rattle.privileges.specs.Booleans.{and_left, and_right, and_both}
use Rattle.program.specs.Terms.{Op, Term, boolean, number, variable, function, letrec, call, if, check, enable, sign, test, binary, post}
use Rattle.semantics.specs.Domains.{Interpretation, standard}
use Rattle.semantics.specs.Values.{Value, Env, empty, Budget, Result}
use Rattle.semantics.specs.Meaning.{Control, plain, passes, guard_passes, Application, eval_with, apply, eval}
use Rattle.semantics.proofs.Laws.Related.{RelatedValue, v_bool, v_num, v_closure, RelatedEnv, env_empty, env_bind, RelatedResult, r_ends, r_stops, related_then, related_choose, related_found, related_branch, related_compute, related_post, related_cell, related_deep, related_enter}
use Rattle.semantics.specs.Access.{Frame, frame, chk, privs, enable_first, lazy_control, Rights, rights, add_authorised, eager_control}
use Rattle.semantics.specs.Runs.{principals_known}
use Rattle.intervals.specs.Claims.{chosen}

-- the second has the number chosen in each number term; signs are of principals below a count
pub data Replaced (ρ : ℕ → ℕ) (count : ℕ) : Term → Term → Type 0 where
  p_boolean : {at : ℕ} {b : Bool} → Replaced ρ count (boolean at b) (boolean at b)
  p_number : {at n : ℕ} → Replaced ρ count (number at n) (number at (ρ at))
  p_variable : {at i : ℕ} → Replaced ρ count (variable at i) (variable at i)
  p_function : {at ty : ℕ} {c c' : Term} → Replaced ρ count c c' → Replaced ρ count (function at ty c) (function at ty c')
  p_letrec : {at ty : ℕ} {c c' d d' : Term} → Replaced ρ count c c' → Replaced ρ count d d' → Replaced ρ count (letrec at ty c d) (letrec at ty c' d')
  p_call : {at : ℕ} {c c' d d' : Term} → Replaced ρ count c c' → Replaced ρ count d d' → Replaced ρ count (call at c d) (call at c' d')
  p_if : {at : ℕ} {c c' y y' n n' : Term} → Replaced ρ count c c' → Replaced ρ count y y' → Replaced ρ count n n'
      → Replaced ρ count (if at c y n) (if at c' y' n')
  p_check : {at p : ℕ} {c c' : Term} → Replaced ρ count c c' → Replaced ρ count (check at p c) (check at p c')
  p_enable : {at p : ℕ} {c c' : Term} → Replaced ρ count c c' → Replaced ρ count (enable at p c) (enable at p c')
  p_sign : {at n : ℕ} {c c' : Term} → n < count → Replaced ρ count c c' → Replaced ρ count (sign at n c) (sign at n c')
  p_test : {at p : ℕ} {y y' n n' : Term} → Replaced ρ count y y' → Replaced ρ count n n' → Replaced ρ count (test at p y n) (test at p y' n')
  p_binary : {at : ℕ} {op : Op} {c c' d d' : Term} → Replaced ρ count c c' → Replaced ρ count d d' → Replaced ρ count (binary at op c d) (binary at op c' d')
  p_post : {at ch : ℕ} {g : Option ℕ} {c c' : Term} → Replaced ρ count c c' → Replaced ρ count (post at ch g c) (post at ch g c')

-- results that differ in the bodies of closures alone
abbrev pub ReplacedResult : (ρ : ℕ → ℕ) (count : ℕ) → Result → Result → Type 0
ReplacedResult ρ count x y = RelatedResult (Replaced ρ count) (λ n. n) (λ n. n) x y

-- ---- access controls that agree: related states stay related, and grant the same
pub record Agreeing (count : ℕ) (X Y : Control) : Type 1 where
  pub related : X.State → Y.State → Type 0
  pub on_sign : (n : ℕ) → n < count → (s : X.State) (t : Y.State) → related s t → related (X.signs n s) (Y.signs n t)
  pub on_enable : (p : ℕ) (s : X.State) (t : Y.State) → related s t → related (X.enables p s) (Y.enables p t)
  pub same_grants : (s : X.State) (t : Y.State) → related s t → (p : ℕ) → X.grants s p ≡ Y.grants t p

module _ (count : ℕ) (A B : ℕ → ℕ) (same : (n : ℕ) → n < count → A n ≡ B n) where
  added_same : (n p P : ℕ) → n < count → add_authorised A n p P ≡ add_authorised B n p P
  unfolding add_authorised
  added_same n p P h = λ i. cond (has p (same n h i)) (insert p P) P

  pub eager_agrees : Agreeing count (eager_control A) (eager_control B)
  eager_agrees = record {
    related = λ (r t : Rights). (r ≡ t) × (t.signer < count);
    on_sign = λ n h r t e. ((λ i. rights n (meet (e.0 i).granted (same n h i))), h);
    on_enable = λ p r t e. (
      (λ i. rights (e.0 i).signer (add_authorised A (e.0 i).signer p (e.0 i).granted))
          ∙ (λ i. rights t.signer (added_same t.signer p t.granted e.1 i)),
      e.1,
    );
    same_grants = λ r t e p. λ i. has p (e.0 i).granted;
  }

  privs_same : (fs : List Frame) → principals_known count fs ≡ true → privs A fs ≡ privs B fs
  privs_same [] h = refl
  privs_same (f ∷ fs) h =
      let low : f.principal < count = ltb-true f.principal count (search (h, and_left)) in
      let rest : principals_known count fs ≡ true = search (h, and_right) in
      λ i. meet (same f.principal low i) (union f.enabled (privs_same fs rest i))

  -- from a start stack of known principals
  pub eager_start : (fs : List Frame) → principals_known count fs ≡ true → 0 < count → eager_agrees.related (rights 0 (privs A fs)) (rights 0 (privs B fs))
  unfolding eager_agrees
  eager_start fs h l = ((λ i. rights 0 (privs_same fs h i)), l)

  chk_same : (fs : List Frame) → principals_known count fs ≡ true → (p : ℕ) → chk A fs p ≡ chk B fs p
  chk_same [] h p = refl
  chk_same (f ∷ fs) h p =
      let low : f.principal < count = ltb-true f.principal count (search (h, and_left)) in
      let rest : principals_known count fs ≡ true = search (h, and_right) in
      λ i. has p (same f.principal low i) && (has p f.enabled || chk_same fs rest p i)

  known_enabled : (p : ℕ) (fs : List Frame) → principals_known count fs ≡ true → principals_known count (enable_first p fs) ≡ true
  known_enabled p [] h = h
  known_enabled p (f ∷ fs) h = h

  pub lazy_agrees : Agreeing count (lazy_control A) (lazy_control B)
  lazy_agrees = record {
    related = λ (fs gs : List Frame). (fs ≡ gs) × (principals_known count gs ≡ true);
    on_sign = λ n h fs gs e. ((λ i. frame n 0 ∷ e.0 i), and_both (lt-ltb n count h) e.1);
    on_enable = λ p fs gs e. ((λ i. enable_first p (e.0 i)), known_enabled p gs e.1);
    same_grants = λ fs gs e p. (λ i. chk A (e.0 i) p) ∙ chk_same gs e.1 p;
  }

  pub lazy_start : (fs : List Frame) → principals_known count fs ≡ true → lazy_agrees.related fs fs
  unfolding lazy_agrees
  lazy_start fs h = (refl, h)

-- ---- evaluations
module _ (ρ : ℕ → ℕ) (count : ℕ) where
  abbrev replacing : Interpretation
  replacing = chosen (λ at n. ρ at)

  -- the relation of bodies, and numbers that stay
  abbrev C : Term → Term → Type 0
  C c c' = Replaced ρ count c c'

  abbrev same : ℕ → ℕ
  same n = n

  abbrev Like : Result → Result → Type 0
  Like x y = ReplacedResult ρ count x y

  abbrev LikeValue : Value → Value → Type 0
  LikeValue v w = RelatedValue C same v w

  module _ (X Y : Control) (R : Agreeing count X Y) (enforce : Bool) where
    abbrev LikeApplication : Application standard X → Application standard Y → Type 0
    LikeApplication f g = (at : ℕ) (v v' w w' : Value) → LikeValue v v' → LikeValue w w' → (s : X.State) (t : Y.State) → R.related s t → (u : Budget)
        → Like (f at v w s u) (g at v' w' t u)

    same_guard : (s : X.State) (t : Y.State) → R.related s t → (g : Option ℕ) → guard_passes enforce (X.grants s) g ≡ guard_passes enforce (Y.grants t) g
    same_guard s t r none = refl
    same_guard s t r (some p) = λ i. passes enforce (R.same_grants s t r p i)

    module _ (f : Application replacing X) (g : Application standard Y) (h : LikeApplication f g) where
      eval_replaced : {c c' : Term} → Replaced ρ count c c' → (s : X.State) (t : Y.State) → R.related s t → {e e' : Env} → RelatedEnv C same e e'
          → (u : Budget) → Like (eval_with replacing X (plain enforce) f c s e u) (eval_with standard Y (plain enforce) g c' t e' u)
      unfolding eval_with
      eval_replaced p_boolean s t r e u = r_ends v_bool
      eval_replaced p_number s t r e u = r_ends v_num
      eval_replaced (p_variable {at} {i}) s t r e u = related_found C same same e i at u
      eval_replaced (p_function c) s t r e u = r_ends (v_closure c e)
      eval_replaced (p_letrec {at} {ty} c d) s t r e u =
          related_cell C same same at _ _ (λ u₁. eval_replaced d s t r (env_bind (v_closure {r = true} {ty = ty} c e) e) u₁) u
      eval_replaced (p_call {at} c d) s t r e u =
          related_then C same same _ _ (eval_replaced c s t r e u)
          (λ _ _ v u₁. related_then C same same _ _ (eval_replaced d s t r e u₁) (λ _ _ w u₂. h at _ _ _ _ v w s t r u₂))
      eval_replaced (p_if {at} c y n) s t r e u =
          related_then C same same _ _ (eval_replaced c s t r e u)
          (λ _ _ v u₁. related_branch C same same at v _ _ _ _ u₁ (eval_replaced y s t r e u₁) (eval_replaced n s t r e u₁))
      eval_replaced (p_check {p = p} c) s t r e u =
          related_choose C same same (λ i. passes enforce (R.same_grants s t r p i)) _ _ _ _ u (eval_replaced c s t r e u) r_stops
      eval_replaced (p_enable {p = p} c) s t r e u = eval_replaced c (X.enables p s) (Y.enables p t) (R.on_enable p s t r) e u
      eval_replaced (p_sign {n = n} l c) s t r e u = eval_replaced c (X.signs n s) (Y.signs n t) (R.on_sign n l s t r) e u
      eval_replaced (p_test {p = p} y n) s t r e u =
          related_choose C same same (R.same_grants s t r p) _ _ _ _ u (eval_replaced y s t r e u) (eval_replaced n s t r e u)
      eval_replaced (p_binary {at} {op} c d) s t r e u =
          related_then C same same _ _ (eval_replaced c s t r e u)
          (λ _ _ v u₁. related_then C same same _ _ (eval_replaced d s t r e u₁) (λ _ _ w u₂. related_compute C same same at op v w u₂))
      eval_replaced (p_post {at} {ch} {g} c) s t r e u =
          related_then C same same _ _ (eval_replaced c s t r e u) (λ _ _ v u₁. related_post C same same at ch (same_guard s t r g) v u₁)

    apply_replaced : (k : ℕ) → LikeApplication (apply replacing X (plain enforce) k) (apply standard Y (plain enforce) k)
    unfolding apply
    apply_replaced zero at _ _ _ _ v w s t r u = related_deep C same same at v u
    apply_replaced (suc k) at _ _ _ _ v w s t r u =
        related_enter C same same at v w _ _
        (λ _ _ _ _ c e u₁. eval_replaced (apply replacing X (plain enforce) k) (apply standard Y (plain enforce) k) (apply_replaced k) c s t r e u₁) u

    pub runs_replaced : (depth : ℕ) {c c' : Term} → Replaced ρ count c c' → (s : X.State) (t : Y.State) → R.related s t → (u : Budget)
        → Like (eval replacing X (plain enforce) depth c s empty u) (eval standard Y (plain enforce) depth c' t empty u)
    unfolding eval
    runs_replaced k c s t r u =
        eval_replaced (apply replacing X (plain enforce) k) (apply standard Y (plain enforce) k) (apply_replaced k) c s t r env_empty u
