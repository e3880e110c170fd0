-- Subtyping is an order on the types of a readable sheet, and the test decides it; and so with the wider of two types.
use Rattle.std.specs.Prelude.{Bool, ◌⊎◌, ◌≡◌, eqb}
use Rattle.std.proofs.Math.Bool.{true, false, cond}
use Rattle.std.proofs.Common.{true≢false, inl, inr, sym, ◌∙◌, le_refl, arith}
use Rattle.std.proofs.lemmas.Bool.{false≢true}
use Rattle.std.proofs.Math.Logic.{⊎_elim}
use Rattle.std.proofs.Math.Option.{none, some, none-ne-some, some-injective}
use Rattle.std.proofs.Math.Path.{refl, subst}
use Prim.Native.Nat.{ℕ, zero, suc, ◌+◌, ◌≤◌}
use borrow.Author.Tests.{eqb-true, eq-eqb}
use Rattle.privileges.specs.Booleans.{bool_ext}
use Rattle.privileges.specs.Sets.{◌⊆◌, subset}
use Rattle.privileges.specs.Laws.{⊆_refl, ⊆_trans, ⊆_antisym, subset_⊆, ⊆_subset}
use Rattle.program.specs.Tests.{also, or_else}
use Rattle.program.specs.Layout.{Types}
use Rattle.program.proofs.Laws.Types.{PartsLower}
use Rattle.typing.specs.Subtyping.{Subtype, sub_same, sub_fun, Wider, wider_second, wider_first, subtype_in, subtype, wider}

module _ (T : Types) where
  -- ---- transitive: cut on either side at once, since arguments exchange the sides
  abbrev Cut : ℕ → ℕ → Type 0
  Cut a b = ((c : ℕ) → Subtype T b c → Subtype T a c) × ((c : ℕ) → Subtype T c a → Subtype T c b)

  above : {a b c : ℕ} → T.is_fun a ≡ true → Cut (T.arg b) (T.arg a) → T.latent a ⊆ T.latent b → Cut (T.res a) (T.res b)
      → Subtype T a b → Subtype T b c → Subtype T a c
  above ha x l y p sub_same = p
  above ha x l y p (sub_fun hb hc x' l' y') = sub_fun ha hc (x.1 _ x') (⊆_trans l l') (y.0 _ y')

  beneath : {a b c : ℕ} → T.is_fun b ≡ true → Cut (T.arg b) (T.arg a) → T.latent a ⊆ T.latent b → Cut (T.res a) (T.res b)
      → Subtype T a b → Subtype T c a → Subtype T c b
  beneath hb x l y p sub_same = p
  beneath hb x l y p (sub_fun hc ha x' l' y') = sub_fun hc hb (x.0 _ x') (⊆_trans l' l) (y.1 _ y')

  cut : {a b : ℕ} → Subtype T a b → Cut a b
  cut sub_same = (λ c h. h, λ c h. h)
  cut (sub_fun ha hb x l y) =
      (λ c h. above ha (cut x) l (cut y) (sub_fun ha hb x l y) h, λ c h. beneath hb (cut x) l (cut y) (sub_fun ha hb x l y) h)

  pub sub_trans : {a b c : ℕ} → Subtype T a b → Subtype T b c → Subtype T a c
  sub_trans p q = (cut p).0 _ q

  -- ---- what a subtype has of the supertype
  -- a type that is no function is below itself alone
  pub sub_base : {a b : ℕ} → Subtype T a b → T.is_fun a ≡ false → b ≡ a
  sub_base sub_same h = refl
  sub_base (sub_fun ha hb x l y) h = absurd (true≢false (sym ha ∙ h))

  pub sub_is_fun : {a b : ℕ} → Subtype T a b → T.is_fun a ≡ true → T.is_fun b ≡ true
  sub_is_fun sub_same h = h
  sub_is_fun (sub_fun ha hb x l y) h = hb

  pub sub_arg : {a b : ℕ} → Subtype T a b → Subtype T (T.arg b) (T.arg a)
  sub_arg sub_same = sub_same
  sub_arg (sub_fun ha hb x l y) = x

  pub sub_res : {a b : ℕ} → Subtype T a b → Subtype T (T.res a) (T.res b)
  sub_res sub_same = sub_same
  sub_res (sub_fun ha hb x l y) = y

  pub sub_latent : {a b : ℕ} → Subtype T a b → T.latent a ⊆ T.latent b
  sub_latent {a = a} sub_same = ⊆_refl (T.latent a)
  sub_latent (sub_fun ha hb x l y) = l

  -- ---- decided
  five : (a b c d e : Bool) → also a (λ _. also b (λ _. also c (λ _. also d (λ _. e)))) ≡ true
      → (a ≡ true) × (b ≡ true) × (c ≡ true) × (d ≡ true) × (e ≡ true)
  five true true true true e h = (refl, refl, refl, refl, h)
  five true true true false e h = absurd (false≢true h)
  five true true false d e h = absurd (false≢true h)
  five true false c d e h = absurd (false≢true h)
  five false b c d e h = absurd (false≢true h)

  all_five : {a b c d e : Bool} → a ≡ true → b ≡ true → c ≡ true → d ≡ true → e ≡ true
      → also a (λ _. also b (λ _. also c (λ _. also d (λ _. e)))) ≡ true
  all_five p q r s t = λ i. also (p i) (λ _. also (q i) (λ _. also (r i) (λ _. also (s i) (λ _. t i))))

  or_inv : (a b : Bool) → or_else a (λ _. b) ≡ true → (a ≡ true) ⊎ (b ≡ true)
  or_inv true b h = inl refl
  or_inv false b h = inr h

  or_first : (a b : Bool) → a ≡ true → or_else a (λ _. b) ≡ true
  or_first a b h = λ i. or_else (h i) (λ _. b)

  or_other : (a b : Bool) → b ≡ true → or_else a (λ _. b) ≡ true
  or_other true b h = refl
  or_other false b h = h

  eqb_sub : (a b : ℕ) → eqb a b ≡ true → Subtype T a b
  eqb_sub a b h = subst (λ x. Subtype T a x) (eqb-true a b h) sub_same

  in_sound : (k a b : ℕ) → subtype_in T k a b ≡ true → Subtype T a b
  unfolding subtype_in
  in_sound zero a b h = eqb_sub a b h
  in_sound (suc k) a b h = ⊎_elim (eqb_sub a b)
      (λ g. let p = five (T.is_fun a) (T.is_fun b) (subtype_in T k (T.arg b) (T.arg a)) (subset (T.latent a) (T.latent b))
      (subtype_in T k (T.res a) (T.res b)) g in
      sub_fun p.0 p.1 (in_sound k (T.arg b) (T.arg a) p.2) (subset_⊆ (T.latent a) (T.latent b) p.3) (in_sound k (T.res a) (T.res b) p.4))
      (or_inv (eqb a b) _ h)

  in_complete : PartsLower T → {a b : ℕ} → Subtype T a b → (k : ℕ) → a + b ≤ k → subtype_in T k a b ≡ true
  unfolding subtype_in
  in_complete L (sub_same {a}) zero l = eq-eqb a a refl
  in_complete L (sub_same {a}) (suc k) l = or_first (eqb a a) _ (eq-eqb a a refl)
  in_complete L (sub_fun {a} {b} ha hb x s y) zero l = absurd (omega (arith, L.arg_lower a ha))
  in_complete L (sub_fun {a} {b} ha hb x s y) (suc k) l =
      or_other (eqb a b) _ (all_five ha hb (in_complete L x k (omega (arith, L.arg_lower a ha, L.arg_lower b hb))) (⊆_subset s)
      (in_complete L y k (omega (arith, L.res_lower a ha, L.res_lower b hb))))

  pub subtype_sound : (a b : ℕ) → subtype T a b ≡ true → Subtype T a b
  unfolding subtype
  subtype_sound a b h = in_sound (a + b) a b h

  pub subtype_complete : PartsLower T → {a b : ℕ} → Subtype T a b → subtype T a b ≡ true
  unfolding subtype
  subtype_complete L {a} {b} f = in_complete L f (a + b) (le_refl (a + b))

  pub refuted : {a b : ℕ} → (Subtype T a b → ⊥) → subtype T a b ≡ false
  refuted {a} {b} n = bool_ext (subtype T a b) false (λ e. absurd (n (subtype_sound a b e))) (λ e. absurd (false≢true e))

  -- ---- the wider of two types
  module _ (L : PartsLower T) where
    pub fails : (a b : ℕ) → subtype T a b ≡ false → Subtype T a b → ⊥
    fails a b e h = true≢false (sym (subtype_complete L h) ∙ e)

    pub wider_sound : (a b c : ℕ) → wider T a b ≡ some c → Wider T a b c
    unfolding wider
    wider_sound a b c h = go (subtype T a b) refl (subtype T b a) refl
      where
        go : (x : Bool) → subtype T a b ≡ x → (y : Bool) → subtype T b a ≡ y → Wider T a b c
        go true p y q = subst (Wider T a b) (some-injective b c (simp p at h)) (wider_second (subtype_sound a b p))
        go false p true q = subst (Wider T a b) (some-injective a c (simp (p, q) at h)) (wider_first (fails a b p) (subtype_sound b a q))
        go false p false q = absurd (none-ne-some c (simp (p, q) at h))

    pub wider_complete : {a b c : ℕ} → Wider T a b c → wider T a b ≡ some c
    unfolding wider
    wider_complete (wider_second {a} {b} h) = λ i. cond (subtype_complete L h i) (some b) (cond (subtype T b a) (some a) none)
    wider_complete (wider_first {a} {b} n h) = λ i. cond (refuted n i) (some b) (cond (subtype_complete L h i) (some a) none)

  -- both fit it
  pub wider_bounds : {a b c : ℕ} → Wider T a b c → Subtype T a c × Subtype T b c
  wider_bounds (wider_second h) = (h, sub_same)
  wider_bounds (wider_first n h) = (sub_same, h)

  -- ---- antisymmetric, where function types with the same parts are the same
  module _
      (one : (a b : ℕ) → T.is_fun a ≡ true → T.is_fun b ≡ true → T.arg a ≡ T.arg b → T.res a ≡ T.res b → T.latent a ≡ T.latent b → a ≡ b)
    where
      pub sub_antisym : {a b : ℕ} → Subtype T a b → Subtype T b a → a ≡ b
      sub_antisym sub_same q = refl
      sub_antisym (sub_fun {a} {b} ha hb x l y) q =
          one a b ha hb (sym (sub_antisym x (sub_arg q))) (sub_antisym y (sub_res q)) (⊆_antisym (T.latent a) (T.latent b) l (sub_latent q))

      -- so either of two types can be the wider, whichever of them stands first
      pub wider_above : PartsLower T → {a b : ℕ} → Subtype T b a → Wider T a b a
      wider_above L {a} {b} h = go (subtype T a b) refl
        where
          go : (x : Bool) → subtype T a b ≡ x → Wider T a b a
          go true e = let p = subtype_sound a b e in subst (Wider T a b) (sub_antisym h p) (wider_second p)
          go false e = wider_first (fails L a b e) h
