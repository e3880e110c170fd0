-- Subtyping: 01's "fits", 003 §4.2's ≤; and the wider of two types.
use Rattle.std.specs.Prelude.{Bool, true, cond, ◌≡◌, ℕ, zero, suc, ◌+◌, eqb}
use Rattle.std.proofs.Math.Option.{Option, none, some}
use Rattle.privileges.specs.Sets.{◌⊆◌, subset}
use Rattle.program.specs.Tests.{also, or_else}
use Rattle.program.specs.Layout.{Types}

-- 01, "Rules": "One type fits another when they are the same, or both are functions, the second's argument fits the first's, the first's
-- latent set lies inside the second's, and the first's result fits the second's."
pub data Subtype (T : Types) : ℕ → ℕ → Type 0 where
  sub_same : {a : ℕ} → Subtype T a a
  sub_fun : {a b : ℕ} → T.is_fun a ≡ true → T.is_fun b ≡ true → Subtype T (T.arg b) (T.arg a) → T.latent a ⊆ T.latent b
      → Subtype T (T.res a) (T.res b) → Subtype T a b

-- 02, W4: "where one type fits the other, and have the wider type". c is the wider of a and b: b if a fits it, or else a if b fits it. Of a readable
-- sheet's types it is the same from which of the two one starts, since subtyping is antisymmetric (Theorems: wider_either).
pub data Wider (T : Types) : (a b c : ℕ) → Type 0 where
  wider_second : {a b : ℕ} → Subtype T a b → Wider T a b b
  wider_first : {a b : ℕ} → (Subtype T a b → ⊥) → Subtype T b a → Wider T a b a

module _ (T : Types) where
  -- the same as a test, in so many steps; of types with lower numbers a + b steps are enough
  unfoldable pub subtype_in : (steps a b : ℕ) → Bool
  subtype_in zero a b = eqb a b
  subtype_in (suc k) a b = or_else (eqb a b) λ _. also (T.is_fun a) λ _. also (T.is_fun b) λ _. also (subtype_in k (T.arg b) (T.arg a)) λ _.
      also (subset (T.latent a) (T.latent b)) λ _. subtype_in k (T.res a) (T.res b)

  unfoldable pub subtype : (a b : ℕ) → Bool
  subtype a b = subtype_in (a + b) a b

  -- the wider of the two, by at most two tests; equal types pass the first at once
  unfoldable pub wider : (a b : ℕ) → Option ℕ
  wider a b = cond (subtype a b) (some b) (cond (subtype b a) (some a) none)
