-- Terms related by erasure run alike: from whatever states of whatever access controls, with checks passed over in the old term and in force or passed over
-- in the new one, they end in values related by erasure or stop by the same cause at the old term and its new number, with the same left of the budget.
use Rattle.std.specs.Prelude.{Bool, true, false}
use Rattle.std.proofs.Math.Path.{refl}
use Prim.Native.Nat.{ℕ, zero, suc}
use Rattle.program.specs.Terms.{Term}
use Rattle.semantics.specs.Domains.{standard}
use Rattle.semantics.specs.Values.{Value, Env, empty, Budget, Result}
use Rattle.semantics.specs.Meaning.{Control, plain, Application, eval_with, apply, eval}
use Rattle.semantics.proofs.Laws.Related.{RelatedValue, v_bool, v_num, v_closure, RelatedEnv, env_empty, env_bind, RelatedResult, r_ends, related_then, related_found, related_branch, related_compute, related_post, related_cell, related_deep, related_enter}
use Rattle.erasure.proofs.Laws.Erases.{Erases, e_boolean, e_number, e_variable, e_function, e_letrec, e_call, e_if, e_check, e_enable, e_sign, e_binary, e_post}

module _ (ρ ν : ℕ → ℕ) where
  -- the relation of bodies
  abbrev C : Term → Term → Type 0
  C c c' = Erases ρ ν c c'

  abbrev pub ErasesResult : Result → Result → Type 0
  ErasesResult x y = RelatedResult C ρ ν x y

  abbrev ErasesValue : Value → Value → Type 0
  ErasesValue v w = RelatedValue C ρ v w

  module _ (X Y : Control) (enforce : Bool) where
    abbrev ErasesApplication : Application standard X → Application standard Y → Type 0
    ErasesApplication f g = (at : ℕ) (v v' w w' : Value) → ErasesValue v v' → ErasesValue w w' → (s : X.State) (t : Y.State) (u : Budget)
        → ErasesResult (f at v w s u) (g (ν at) v' w' t u)

    eval_erased : (f : Application standard X) (g : Application standard Y) → ErasesApplication f g → {c c' : Term} → Erases ρ ν c c'
        → (s : X.State) (t : Y.State) {e e' : Env} → RelatedEnv C ρ e e' → (u : Budget)
        → ErasesResult (eval_with standard X (plain false) f c s e u) (eval_with standard Y (plain enforce) g c' t e' u)
    unfolding eval_with
    eval_erased f g h e_boolean s t e u = r_ends v_bool
    eval_erased f g h e_number s t e u = r_ends v_num
    eval_erased f g h (e_variable {at} {i}) s t e u = related_found C ρ ν e i at u
    eval_erased f g h (e_function b) s t e u = r_ends (v_closure b e)
    eval_erased f g h (e_letrec {at} {ty} b r) s t e u =
        related_cell C ρ ν at _ _ (λ u₁. eval_erased f g h r s t (env_bind (v_closure {r = true} {ty = ty} b e) e) u₁) u
    eval_erased f g h (e_call {at} c a) s t e u =
        related_then C ρ ν _ _ (eval_erased f g h c s t e u)
        (λ _ _ v u₁. related_then C ρ ν _ _ (eval_erased f g h a s t e u₁) (λ _ _ w u₂. h at _ _ _ _ v w s t u₂))
    eval_erased f g h (e_if {at} c y n) s t e u =
        related_then C ρ ν _ _ (eval_erased f g h c s t e u)
        (λ _ _ v u₁. related_branch C ρ ν at v _ _ _ _ u₁ (eval_erased f g h y s t e u₁) (eval_erased f g h n s t e u₁))
    eval_erased f g h (e_check c) s t e u = eval_erased f g h c s t e u
    eval_erased f g h (e_enable {p = p} c) s t e u = eval_erased f g h c (X.enables p s) t e u
    eval_erased f g h (e_sign {n = n} c) s t e u = eval_erased f g h c (X.signs n s) (Y.signs n t) e u
    eval_erased f g h (e_binary {at} {op} a b) s t e u =
        related_then C ρ ν _ _ (eval_erased f g h a s t e u)
        (λ _ _ v u₁. related_then C ρ ν _ _ (eval_erased f g h b s t e u₁) (λ _ _ w u₂. related_compute C ρ ν at op v w u₂))
    eval_erased f g h (e_post {at} {ch} c) s t e u =
        related_then C ρ ν _ _ (eval_erased f g h c s t e u) (λ _ _ v u₁. related_post C ρ ν at ch {b = true} refl v u₁)

    apply_erased : (k : ℕ) → ErasesApplication (apply standard X (plain false) k) (apply standard Y (plain enforce) k)
    unfolding apply
    apply_erased zero at _ _ _ _ v w s t u = related_deep C ρ ν at v u
    apply_erased (suc k) at _ _ _ _ v w s t u =
        related_enter C ρ ν at v w _ _
        (λ _ _ _ _ c e u₁. eval_erased (apply standard X (plain false) k) (apply standard Y (plain enforce) k) (apply_erased k) c s t e u₁) u

    pub runs_erased : (depth : ℕ) {c c' : Term} → Erases ρ ν c c' → (s : X.State) (t : Y.State) → (u : Budget)
        → ErasesResult (eval standard X (plain false) depth c s empty u) (eval standard Y (plain enforce) depth c' t empty u)
    unfolding eval
    runs_erased k c s t u = eval_erased (apply standard X (plain false) k) (apply standard Y (plain enforce) k) (apply_erased k) c s t env_empty u
