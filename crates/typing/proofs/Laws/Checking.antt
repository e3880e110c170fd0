-- The algorithm accepts exactly the derivable terms, with the type that every derivation has and the least needs. What the rules before W4 derive, it
-- finds with the same type and the needs that are least by those.
use Rattle.std.specs.Prelude.{Bool, true, false, cond, List, ◌∷◌, ◌≡◌, ℕ, eqb}
use Rattle.std.proofs.Math.Option.{Option, none, some}
use Rattle.std.proofs.Math.Path.{refl, ap}
use Rattle.std.proofs.Common.{sym, ◌∙◌, subst, eqb-true, eq-eqb}
use Rattle.privileges.specs.Booleans.{and_left, and_right}
use Rattle.privileges.specs.Sets.{has, union, insert, remove, ◌⊆◌}
use Rattle.privileges.specs.Laws.{⊆_refl, ⊆_trans, union_mono, insert_mono, remove_mono, subset_⊆, ⊆_subset}
use Rattle.program.specs.Layout.{Types}
use Rattle.program.specs.Terms.{Term, boolean, number, variable, function, letrec, call, if, check, enable, sign, test, binary, post}
use Rattle.program.proofs.Laws.Types.{PartsLower}
use Rattle.program.proofs.Laws.Trees.{Standard}
use Rattle.typing.specs.Subtyping.{Wider, wider}
use Rattle.typing.specs.Rules.{lookup_type, remove_authorised, post_needs, Same, Variant, after_w1, current, Derives, d_boolean, d_number, d_variable, d_function, d_letrec, d_call, d_if, d_test, d_check, d_enable, d_sign, d_binary, d_post, d_widen}
use Rattle.typing.specs.Checking.{Judgement, typed, fault, ◌next◌, require, variable_type, joined, body_fits, infer}
use Rattle.typing.proofs.Laws.Subtyping.{subtype_sound, subtype_complete, wider_sound, wider_complete}
use Rattle.typing.proofs.Laws.Variants.{same_wider}

pub remove_authorised_mono : (A : ℕ → ℕ) (n p : ℕ) {a b : ℕ} → a ⊆ b → remove_authorised A n p a ⊆ remove_authorised A n p b
unfolding remove_authorised
remove_authorised_mono A n p {a} {b} f = go (has p (A n))
  where
    go : (z : Bool) → cond z (remove p a) a ⊆ cond z (remove p b) b
    go true = remove_mono p f
    go false = f

pub post_needs_mono : (g : Option ℕ) {a b : ℕ} → a ⊆ b → post_needs g a ⊆ post_needs g b
post_needs_mono none f = f
post_needs_mono (some p) f = insert_mono p f

-- ---- sound: what is typed is derived
pub data SoundJudgement (T : Types) (A : ℕ → ℕ) (Γ : List ℕ) (n : ℕ) (c : Term) : Judgement → Type 0 where
  derived : {τ N : ℕ} → Derives current T A Γ n c τ N → SoundJudgement T A Γ n c (typed τ N)
  faulty : {cause at : ℕ} → SoundJudgement T A Γ n c (fault cause at)

module _ {T : Types} {A : ℕ → ℕ} {Γ : List ℕ} {n : ℕ} {c : Term} where
  next_sound : {Γ' : List ℕ} {n' : ℕ} {c' : Term} {j : Judgement} (k : ℕ → ℕ → Judgement) → SoundJudgement T A Γ' n' c' j
      → ((τ N : ℕ) → Derives current T A Γ' n' c' τ N → SoundJudgement T A Γ n c (k τ N)) → SoundJudgement T A Γ n c (j next k)
  next_sound k (derived {τ} {N} d) h = h τ N d
  next_sound k faulty h = faulty

  require_sound : (b : Bool) (cause at : ℕ) {j : Judgement} → (b ≡ true → SoundJudgement T A Γ n c j) → SoundJudgement T A Γ n c (require b cause at j)
  require_sound true cause at h = h refl
  require_sound false cause at h = faulty

  joined_sound : (at N : ℕ) (o : Option ℕ) → ((υ : ℕ) → o ≡ some υ → Derives current T A Γ n c υ N) → SoundJudgement T A Γ n c (joined at o N)
  joined_sound at N (some υ) h = derived (h υ refl)
  joined_sound at N none h = faulty

  retype : {τ σ N : ℕ} → τ ≡ σ → Derives current T A Γ n c τ N → Derives current T A Γ n c σ N
  retype {N = N} e d = subst (λ x. Derives current T A Γ n c x N) e d

  body_sound : {τ N : ℕ} (at ty : ℕ) {j : Judgement} → (τ ≡ T.res ty → N ⊆ T.latent ty → SoundJudgement T A Γ n c j)
      → SoundJudgement T A Γ n c (body_fits T A at ty τ N j)
  body_sound {τ} {N} at ty h = require_sound _ 10 at λ e. require_sound _ 12 at λ l. h (eqb-true τ (T.res ty) e) (subset_⊆ N (T.latent ty) l)

  typed_derives : {j : Judgement} {τ N : ℕ} → SoundJudgement T A Γ n c j → j ≡ typed τ N → Derives current T A Γ n c τ N
  typed_derives s e = go (subst (SoundJudgement T A Γ n c) e s)
    where
      go : {τ N : ℕ} → SoundJudgement T A Γ n c (typed τ N) → Derives current T A Γ n c τ N
      go (derived d) = d

module _ (T : Types) (A : ℕ → ℕ) where
  variable_sound : (Γ : List ℕ) (n at i : ℕ) (o : Option ℕ) → lookup_type Γ i ≡ o → SoundJudgement T A Γ n (variable at i) (variable_type at o)
  variable_sound Γ n at i none e = faulty
  variable_sound Γ n at i (some τ) e = derived (d_variable e)

  -- two branches of the types τ and ρ
  branches_sound : PartsLower T → {Γ : List ℕ} {n : ℕ} {c : Term} (at τ ρ N : ℕ) → ((υ : ℕ) → Wider T τ ρ υ → Derives current T A Γ n c υ N)
      → SoundJudgement T A Γ n c (joined at (wider T τ ρ) N)
  branches_sound L at τ ρ N h = joined_sound at N (wider T τ ρ) λ υ e. h υ (wider_sound T L τ ρ υ e)

  pub infer_sound : PartsLower T → (Γ : List ℕ) (n : ℕ) (c : Term) → Standard T c → SoundJudgement T A Γ n c (infer T A Γ n c)
  unfolding infer
  infer_sound L Γ n (boolean at b) w = derived d_boolean
  infer_sound L Γ n (number at k) w = derived d_number
  infer_sound L Γ n (variable at i) w = variable_sound Γ n at i (lookup_type Γ i) refl
  infer_sound L Γ n (function at ty body) w = next_sound _ (infer_sound L (T.arg ty ∷ Γ) n body w.2) λ τ N d.
      body_sound at ty λ e l. derived (d_function w.0 (retype e d) l)
  infer_sound L Γ n (letrec at ty body rest) w = next_sound _ (infer_sound L (T.arg ty ∷ ty ∷ Γ) n body w.2) λ τ N d.
      next_sound _ (infer_sound L (ty ∷ Γ) n rest w.3) λ ρ M d'. body_sound at ty λ e l. derived (d_letrec w.0 (retype e d) l d')
  infer_sound L Γ n (call at f a) w = next_sound _ (infer_sound L Γ n f w.0) λ φ N d. next_sound _ (infer_sound L Γ n a w.1) λ α M d'.
      require_sound _ 24 at λ h. require_sound _ 25 at λ fits. derived (d_call d d' h (subtype_sound T α (T.arg φ) fits))
  infer_sound L Γ n (if at c y o) w = next_sound _ (infer_sound L Γ n c w.0) λ σ N d. next_sound _ (infer_sound L Γ n y w.1) λ τ M d'.
      next_sound _ (infer_sound L Γ n o w.2) λ ρ K d''. require_sound _ 10 at λ h. branches_sound L at τ ρ _ λ υ b.
      d_if (retype (eqb-true σ 0 h) d) d' d'' b
  infer_sound L Γ n (check at p c) w = next_sound _ (infer_sound L Γ n c w) λ τ N d. derived (d_check d)
  infer_sound L Γ n (enable at p c) w = next_sound _ (infer_sound L Γ n c w) λ τ N d. derived (d_enable d)
  infer_sound L Γ n (sign at m c) w = next_sound _ (infer_sound L Γ m c w) λ τ N d. require_sound _ 11 at λ h. derived (d_sign d (subset_⊆ N (A m) h))
  infer_sound L Γ n (test at p y o) w = next_sound _ (infer_sound L Γ n y w.0) λ τ N d. next_sound _ (infer_sound L Γ n o w.1) λ ρ M d'.
      branches_sound L at τ ρ _ λ υ b. d_test d d' b
  infer_sound L Γ n (binary at op a b) w = next_sound _ (infer_sound L Γ n a w.0) λ τ N d. next_sound _ (infer_sound L Γ n b w.1) λ ρ M d'.
      require_sound _ 10 at λ h.
      derived (d_binary (retype (eqb-true τ 1 (and_left (eqb τ 1) (eqb ρ 1) h)) d) (retype (eqb-true ρ 1 (and_right (eqb τ 1) (eqb ρ 1) h)) d'))
  infer_sound L Γ n (post at ch g c) w = next_sound _ (infer_sound L Γ n c w) λ τ N d. require_sound _ 10 at λ h. derived (d_post (retype (eqb-true τ 1 h) d))

  -- ---- complete: what is derived is typed, with needs inside every derivation's, and is derived with these
  pub record Typed (W : Variant) (Γ : List ℕ) (n : ℕ) (c : Term) (τ N : ℕ) : Type 0 where
    pub least : ℕ
    pub is : infer T A Γ n c ≡ typed τ least
    pub inside : least ⊆ N
    pub derives : Derives W T A Γ n c τ least

  then : {j : Judgement} {τ N : ℕ} (k : ℕ → ℕ → Judgement) → j ≡ typed τ N → (j next k) ≡ k τ N
  then k e = λ i. e i next k

  met : (b : Bool) (cause at : ℕ) (j : Judgement) → b ≡ true → require b cause at j ≡ j
  met b cause at j e = λ i. require (e i) cause at j

  body_met : (at ty : ℕ) {N L : ℕ} (j : Judgement) → L ⊆ N → N ⊆ T.latent ty → body_fits T A at ty (T.res ty) L j ≡ j
  body_met at ty j s l = met _ 10 at _ (eq-eqb (T.res ty) (T.res ty) refl) ∙ met _ 12 at j (⊆_subset (⊆_trans s l))

  -- for the rules in force, and for any that ask of branches what `wider` finds
  module _ (L : PartsLower T) (B : Types → ℕ → ℕ → ℕ → Type 0) (found : (a b c : ℕ) → B T a b c → wider T a b ≡ some c) where
    abbrev these : Variant
    these = record { yes_needs = λ p N. remove p N; Branches = B; guard_needs = post_needs }

    branches_met : {τ ρ υ : ℕ} (at N : ℕ) → B T τ ρ υ → joined at (wider T τ ρ) N ≡ typed υ N
    branches_met {τ} {ρ} {υ} at N h = λ i. joined at (found τ ρ υ h i) N

    complete : {Γ : List ℕ} {n : ℕ} {c : Term} {τ N : ℕ} → Derives these T A Γ n c τ N → Typed these Γ n c τ N
    unfolding infer
    complete d_boolean = record { least = 0; is = refl; inside = ⊆_refl 0; derives = d_boolean }
    complete d_number = record { least = 0; is = refl; inside = ⊆_refl 0; derives = d_number }
    complete (d_variable {at = at} h) = record { least = 0; is = ap (variable_type at) h; inside = ⊆_refl 0; derives = d_variable h }
    complete (d_function {at = at} {ty = ty} hf d s) =
        let x = complete d in
        record {
          least = 0;
          is = then _ x.is ∙ body_met at ty _ x.inside s;
          inside = ⊆_refl 0;
          derives = d_function hf x.derives (⊆_trans x.inside s);
        }
    complete (d_letrec {at = at} {ty = ty} hf d s d') =
        let x = complete d in
        let y = complete d' in
        record {
          least = union (T.latent ty) y.least;
          is = then _ x.is ∙ then _ y.is ∙ body_met at ty _ x.inside s;
          inside = union_mono (⊆_refl (T.latent ty)) y.inside;
          derives = d_letrec hf x.derives (⊆_trans x.inside s) y.derives;
        }
    complete (d_call {at = at} {φ = φ} d d' hf f) =
        let x = complete d in
        let y = complete d' in
        record {
          least = union (T.latent φ) (union x.least y.least);
          is = then _ x.is ∙ then _ y.is ∙ met _ 24 at _ hf ∙ met _ 25 at _ (subtype_complete T L f);
          inside = union_mono (⊆_refl (T.latent φ)) (union_mono x.inside y.inside);
          derives = d_call x.derives y.derives hf f;
        }
    complete (d_if {at = at} d d' d'' b) =
        let x = complete d in
        let y = complete d' in
        let z = complete d'' in
        record {
          least = union x.least (union y.least z.least);
          is = then _ x.is ∙ then _ y.is ∙ then _ z.is ∙ branches_met at _ b;
          inside = union_mono x.inside (union_mono y.inside z.inside);
          derives = d_if x.derives y.derives z.derives b;
        }
    complete (d_test {at = at} {p = p} d d' b) =
        let x = complete d in
        let y = complete d' in
        record {
          least = union (remove p x.least) y.least;
          is = then _ x.is ∙ then _ y.is ∙ branches_met at _ b;
          inside = union_mono (remove_mono p x.inside) y.inside;
          derives = d_test x.derives y.derives b;
        }
    complete (d_check {p = p} d) =
        let x = complete d in
        record { least = insert p x.least; is = then _ x.is; inside = insert_mono p x.inside; derives = d_check x.derives }
    complete (d_enable {n = n} {p = p} d) =
        let x = complete d in
        record {
          least = remove_authorised A n p x.least;
          is = then _ x.is;
          inside = remove_authorised_mono A n p x.inside;
          derives = d_enable x.derives;
        }
    complete (d_sign {at = at} d s) =
        let x = complete d in
        let i = ⊆_trans x.inside s in
        record { least = x.least; is = then _ x.is ∙ met _ 11 at _ (⊆_subset i); inside = x.inside; derives = d_sign x.derives i }
    complete (d_binary d d') =
        let x = complete d in
        let y = complete d' in
        record {
          least = union x.least y.least;
          is = then _ x.is ∙ then _ y.is;
          inside = union_mono x.inside y.inside;
          derives = d_binary x.derives y.derives;
        }
    complete (d_post {g = g} d) =
        let x = complete d in
        record { least = post_needs g x.least; is = then _ x.is; inside = post_needs_mono g x.inside; derives = d_post x.derives }
    complete (d_widen d s) =
        let x = complete d in
        record { least = x.least; is = x.is; inside = ⊆_trans x.inside s; derives = x.derives }

  pub infer_complete : PartsLower T → {Γ : List ℕ} {n : ℕ} {c : Term} {τ N : ℕ} → Derives current T A Γ n c τ N → Typed current Γ n c τ N
  infer_complete L d = complete L Wider (λ a b c h. wider_complete T L h) d

  pub infer_after_w1 : PartsLower T → {Γ : List ℕ} {n : ℕ} {c : Term} {τ N : ℕ} → Derives after_w1 T A Γ n c τ N → Typed after_w1 Γ n c τ N
  infer_after_w1 L d = complete L Same (λ a b c h. wider_complete T L (same_wider h)) d

  pub infer_derives : PartsLower T → {Γ : List ℕ} {n : ℕ} {c : Term} {τ N : ℕ} → Standard T c → infer T A Γ n c ≡ typed τ N → Derives current T A Γ n c τ N
  infer_derives L {Γ} {n} {c} w e = typed_derives (infer_sound L Γ n c w) e

  -- what is typed with a derivation has the type that is inferred, and needs no less
  pub typed_least : {W : Variant} {Γ : List ℕ} {n : ℕ} {c : Term} {τ N σ M : ℕ} → infer T A Γ n c ≡ typed τ N → Typed W Γ n c σ M → (σ ≡ τ) × N ⊆ M
  typed_least {τ = τ} {N = N} {σ = σ} {M = M} e x =
      let g : typed σ x.least ≡ typed τ N = sym x.is ∙ e in
      (cc, subst (λ z. z ⊆ M) (let q : x.least ≡ N = cc in q) x.inside)

  -- every derivation has the type that is inferred, and needs no less
  pub derives_least : PartsLower T → {Γ : List ℕ} {n : ℕ} {c : Term} {τ N σ M : ℕ} → infer T A Γ n c ≡ typed τ N → Derives current T A Γ n c σ M
      → (σ ≡ τ) × N ⊆ M
  derives_least L e d = typed_least e (infer_complete L d)
