-- Rules that ask no more than others derive what those derive, of the same type and with the same needs.
use Rattle.std.specs.Prelude.{true, List, ◌≡◌, ℕ}
use Rattle.std.proofs.Math.Option.{Option, none, some}
use Rattle.std.proofs.Common.{sym, ap, subst}
use Rattle.privileges.specs.Sets.{has, remove, ◌⊆◌}
use Rattle.privileges.specs.Laws.{⊆_refl, union_mono, remove_⊆, has_inserted}
use Rattle.program.specs.Layout.{Types}
use Rattle.program.specs.Terms.{Term, EveryPost, Plain}
use Rattle.program.proofs.Laws.Guards.{PostInInterval}
use Rattle.typing.specs.Subtyping.{Wider, sub_same, wider_second}
use Rattle.typing.specs.Rules.{post_needs, Same, same, Variant, base, after_w4, current, Derives, d_boolean, d_number, d_variable, d_function, d_letrec, d_call, d_if, d_test, d_check, d_enable, d_sign, d_binary, d_post, d_widen}

-- "A guarded post adds its privilege to the needs"
pub guard_needed : (p N : ℕ) → has p (post_needs (some p) N) ≡ true
guard_needed p N = has_inserted p N

-- the first variant asks no more than the second, where every post's channel and guard are in Q
pub record Relaxes (Q : ℕ → Option ℕ → Type 0) (new old : Variant) : Type 0 where
  pub yes_needs_holds : (p N : ℕ) → new.yes_needs p N ⊆ old.yes_needs p N
  pub branches : (T : Types) (a b c : ℕ) → old.Branches T a b c → new.Branches T a b c
  pub guard_needs_holds : (ch : ℕ) (g : Option ℕ) → Q ch g → (N : ℕ) → new.guard_needs g N ⊆ old.guard_needs g N

pub relaxed : {Q : ℕ → Option ℕ → Type 0} {new old : Variant} → Relaxes Q new old → {T : Types} {A : ℕ → ℕ} {Γ : List ℕ} {n : ℕ} {c : Term} {τ N : ℕ}
    → EveryPost Q c → Derives old T A Γ n c τ N → Derives new T A Γ n c τ N
relaxed r u d_boolean = d_boolean
relaxed r u d_number = d_number
relaxed r u (d_variable h) = d_variable h
relaxed r u (d_function hf d s) = d_function hf (relaxed r u d) s
relaxed r u (d_letrec hf d s d') = d_letrec hf (relaxed r u.0 d) s (relaxed r u.1 d')
relaxed r u (d_call d d' hf f) = d_call (relaxed r u.0 d) (relaxed r u.1 d') hf f
relaxed r u (d_if d d' d'' h) = d_if (relaxed r u.0 d) (relaxed r u.1 d') (relaxed r u.2 d'') (r.branches _ _ _ _ h)
relaxed r u (d_test {p = p} {N = N} {M = M} d d' h) =
    d_widen (d_test (relaxed r u.0 d) (relaxed r u.1 d') (r.branches _ _ _ _ h)) (union_mono (r.yes_needs_holds p N) (⊆_refl M))
relaxed r u (d_check d) = d_check (relaxed r u d)
relaxed r u (d_enable d) = d_enable (relaxed r u d)
relaxed r u (d_sign d s) = d_sign (relaxed r u d) s
relaxed r u (d_binary d d') = d_binary (relaxed r u.0 d) (relaxed r u.1 d')
relaxed r u (d_post {ch = ch} {N = N} {g = g} d) = d_widen (d_post (relaxed r u.1 d)) (r.guard_needs_holds ch g u.0 N)
relaxed r u (d_widen d s) = d_widen (relaxed r u d) s

-- branches of the same type have that type for the wider one
pub same_wider : {T : Types} {a b c : ℕ} → Same T a b c → Wider T a b c
same_wider same = wider_second sub_same

-- on every readable sheet, whatever its guards
pub current_relaxes_base : Relaxes PostInInterval current base
current_relaxes_base = record {
  yes_needs_holds = λ p N. remove_⊆ p N;
  branches = λ T a b c h. same_wider h;
  guard_needs_holds = λ ch g h N. ⊆_refl (post_needs g N);
}

-- without guards it does not matter how they count
plain_needs : {g : Option ℕ} → g ≡ none → (N : ℕ) → post_needs g N ≡ N
plain_needs e N = ap (λ (g : Option ℕ). post_needs g N) e

pub current_relaxes_after_w4 : Relaxes Plain current after_w4
current_relaxes_after_w4 = record {
  yes_needs_holds = λ p N. ⊆_refl (remove p N);
  branches = λ T a b c h. h;
  guard_needs_holds = λ ch g h N. subst (λ x. x ⊆ N) (sym (plain_needs h.1 N)) (⊆_refl N);
}

pub after_w4_relaxes_current : Relaxes Plain after_w4 current
after_w4_relaxes_current = record {
  yes_needs_holds = λ p N. ⊆_refl (remove p N);
  branches = λ T a b c h. h;
  guard_needs_holds = λ ch g h N. subst (λ x. N ⊆ x) (sym (plain_needs h.1 N)) (⊆_refl N);
}
