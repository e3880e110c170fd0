-- An erased term has the renumbered type of the old one, and needs nothing. A subtype erases to the same type, so that arguments and branches have equal
-- types.
use Rattle.std.specs.Prelude.{true, List, [], ◌∷◌, map, ◌≡◌, refl, ℕ, zero, suc}
use Rattle.std.proofs.Math.Option.{some}
use Rattle.std.proofs.Common.{sym, ap, ◌∙◌, subst}
use Rattle.privileges.specs.Sets.{◌⊆◌}
use Rattle.privileges.specs.Laws.{⊆_none, ⊆_refl, union_⊆}
use Rattle.program.specs.Layout.{Types}
use Rattle.program.specs.Terms.{Op, sum, difference, less, Term}
use Rattle.typing.specs.Subtyping.{Subtype, sub_same, sub_fun, Wider, wider_second, wider_first}
use Rattle.typing.specs.Rules.{lookup_type, result_type, current, Derives, d_boolean, d_number, d_variable, d_function, d_letrec, d_call, d_if, d_check, d_test, d_enable, d_sign, d_binary, d_post, d_widen}
use Rattle.erasure.proofs.Laws.Erases.{Erases, e_boolean, e_number, e_variable, e_function, e_letrec, e_call, e_if, e_check, e_enable, e_sign, e_binary, e_post}

-- The types T' are those of T, renumbered by ρ: parts go along, latent sets are empty, and those that become equal are one.
pub record Renames (T T' : Types) (ρ : ℕ → ℕ) : Type 0 where
  pub boolean_kept : ρ 0 ≡ 0
  pub number_kept : ρ 1 ≡ 1
  pub function_kept : (t : ℕ) → T.is_fun t ≡ true → T'.is_fun (ρ t) ≡ true
  pub arg_is : (t : ℕ) → T.is_fun t ≡ true → T'.arg (ρ t) ≡ ρ (T.arg t)
  pub res_is : (t : ℕ) → T.is_fun t ≡ true → T'.res (ρ t) ≡ ρ (T.res t)
  pub latent_empty : (t : ℕ) → T.is_fun t ≡ true → T'.latent (ρ t) ≡ 0
  pub merged : (t u : ℕ) → T.is_fun t ≡ true → T.is_fun u ≡ true → ρ (T.arg t) ≡ ρ (T.arg u) → ρ (T.res t) ≡ ρ (T.res u) → ρ t ≡ ρ u

bound_map : (ρ : ℕ → ℕ) (Γ : List ℕ) (i τ : ℕ) → lookup_type Γ i ≡ some τ → lookup_type (map ρ Γ) i ≡ some (ρ τ)
bound_map ρ [] i τ e = cc
bound_map ρ (σ ∷ Γ) zero τ e = let q : σ ≡ τ = cc in ap (λ (x : ℕ). some (ρ x)) q
bound_map ρ (σ ∷ Γ) (suc i) τ e = bound_map ρ Γ i τ e

module _ (T T' : Types) (ρ : ℕ → ℕ) (R : Renames T T' ρ) where
  pub sub_merged : {a b : ℕ} → Subtype T a b → ρ a ≡ ρ b
  sub_merged sub_same = refl
  sub_merged (sub_fun {a} {b} ha hb x l y) = R.merged a b ha hb (sym (sub_merged x)) (sub_merged y)

  -- the wider of two types erases to the type of either
  wider_merged : {a b c : ℕ} → Wider T a b c → (ρ a ≡ ρ c) × (ρ b ≡ ρ c)
  wider_merged (wider_second f) = (sub_merged f, refl)
  wider_merged (wider_first n f) = (refl, sub_merged f)

  -- without needs it does not matter what the principals may use
  module _ (A A' : ℕ → ℕ) where
    -- with another type of the same number, and without needs
    recast : {Γ : List ℕ} {n : ℕ} {c : Term} {σ τ N : ℕ} → σ ≡ τ → N ⊆ 0 → Derives current T' A' Γ n c σ N → Derives current T' A' Γ n c τ 0
    recast {Γ} {n} {c} {N = N} e s d = d_widen (subst (λ x. Derives current T' A' Γ n c x N) e d) s

    result_kept : (op : Op) → ρ (result_type op) ≡ result_type op
    result_kept sum = R.number_kept
    result_kept difference = R.number_kept
    result_kept less = R.boolean_kept

    pub derived : {ν : ℕ → ℕ} {Γ : List ℕ} {n : ℕ} {c c' : Term} {τ N : ℕ} → Derives current T A Γ n c τ N → Erases ρ ν c c'
        → Derives current T' A' (map ρ Γ) n c' (ρ τ) 0
    derived d_boolean e_boolean = recast (sym R.boolean_kept) (⊆_refl 0) d_boolean
    derived d_number e_number = recast (sym R.number_kept) (⊆_refl 0) d_number
    derived (d_variable {Γ = Γ} {i = i} {τ = τ} h) e_variable = d_variable (bound_map ρ Γ i τ h)
    derived (d_function {Γ = Γ} {n = n} {ty = ty} hf d s) (e_function {body' = body'} e) =
        d_function (R.function_kept ty hf)
        (recast (sym (R.res_is ty hf)) (⊆_refl 0)
        (subst (λ x. Derives current T' A' (x ∷ map ρ Γ) n body' (ρ (T.res ty)) 0) (sym (R.arg_is ty hf)) (derived d e))) (⊆_none _)
    derived (d_letrec {Γ = Γ} {n = n} {ty = ty} {τ = τ} hf d s d') (e_letrec {body' = body'} e e') =
        recast refl (union_⊆ (subst (λ x. x ⊆ 0) (sym (R.latent_empty ty hf)) (⊆_refl 0)) (⊆_refl 0))
        (d_letrec (R.function_kept ty hf)
        (recast (sym (R.res_is ty hf)) (⊆_refl 0)
        (subst (λ x. Derives current T' A' (x ∷ ρ ty ∷ map ρ Γ) n body' (ρ (T.res ty)) 0) (sym (R.arg_is ty hf)) (derived d e))) (⊆_none _)
        (derived d' e'))
    derived (d_call {φ = φ} {α = α} d d' hf fit) (e_call e e') =
        recast (R.res_is φ hf) (union_⊆ (subst (λ x. x ⊆ 0) (sym (R.latent_empty φ hf)) (⊆_refl 0)) (union_⊆ (⊆_refl 0) (⊆_refl 0)))
        (d_call (derived d e) (derived d' e') (R.function_kept φ hf)
        (subst (λ x. Subtype T' (ρ α) x) (sub_merged fit ∙ sym (R.arg_is φ hf)) sub_same))
    derived (d_if {υ = υ} d d' d'' h) (e_if e e' e'') =
        let m = wider_merged h in
        recast refl (union_⊆ (⊆_refl 0) (union_⊆ (⊆_refl 0) (⊆_refl 0)))
        (d_if (recast R.boolean_kept (⊆_refl 0) (derived d e)) (recast m.0 (⊆_refl 0) (derived d' e')) (recast m.1 (⊆_refl 0) (derived d'' e''))
        (wider_second sub_same))
    derived (d_check d) (e_check e) = derived d e
    derived (d_test d d' h) e = elim e [ ]
    derived (d_enable d) (e_enable e) = derived d e
    derived (d_sign d s) (e_sign e) = d_sign (derived d e) (⊆_none _)
    derived (d_binary {op = op} d d') (e_binary e e') =
        recast (sym (result_kept op)) (union_⊆ (⊆_refl 0) (⊆_refl 0))
        (d_binary (recast R.number_kept (⊆_refl 0) (derived d e)) (recast R.number_kept (⊆_refl 0) (derived d' e')))
    derived (d_post d) (e_post e) = recast (sym R.number_kept) (⊆_refl 0) (d_post (recast R.number_kept (⊆_refl 0) (derived d e)))
    derived (d_widen d s) e = derived d e
