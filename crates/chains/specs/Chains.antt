-- What the theorems say of a chain of terms: which terms stand in it, side by side and last, what a cause is, and which child is followed.
use Rattle.std.specs.Prelude.{true, false, List, [], ◌∷◌, ◌≡◌, ℕ}
use Rattle.std.proofs.Math.Option.{some}
use Rattle.privileges.specs.Sets.{has}
use Rattle.program.specs.Layout.{Types}
use Rattle.program.specs.Terms.{Term, letrec, call, check, post}
use Rattle.typing.specs.Checking.{typed, infer}
use Rattle.typing.specs.Places.{Placed, placed}
use Rattle.chains.specs.Explaining.{needs}

-- y stands right after x
pub data Neighbours (x y : Placed) : List Placed → Type 0 where
  side_by_side : {l : List Placed} → Neighbours x y (x ∷ y ∷ l)
  further : {z : Placed} {l : List Placed} → Neighbours x y l → Neighbours x y (z ∷ l)

-- x is the last of the list
pub data Last (x : Placed) : List Placed → Type 0 where
  last_alone : Last x (x ∷ [])
  last_later : {z : Placed} {l : List Placed} → Last x l → Last x (z ∷ l)

-- "a check that names it, or a call or recursive binder whose latent set holds it": a call's is that of its function part's type; and, by W8, a post
-- that it guards
pub data Cause (T : Types) (A : ℕ → ℕ) (p : ℕ) : Placed → Type 0 where
  check_names : {Γ : List ℕ} {n at : ℕ} {c : Term} → Cause T A p (placed Γ n (check at p c))
  call_holds : {Γ : List ℕ} {n at φ N : ℕ} {f a : Term} → infer T A Γ n f ≡ typed φ N → has p (T.latent φ) ≡ true → Cause T A p (placed Γ n (call at f a))
  letrec_holds : {Γ : List ℕ} {n at ty : ℕ} {body rest : Term} → has p (T.latent ty) ≡ true → Cause T A p (placed Γ n (letrec at ty body rest))
  post_guarded : {Γ : List ℕ} {n at ch : ℕ} {c : Term} → Cause T A p (placed Γ n (post at ch (some p) c))

-- y needs the privilege, and none of the list before it does
pub data Lowest (T : Types) (A : ℕ → ℕ) (p : ℕ) (y : Placed) : List Placed → Type 0 where
  lowest_first : {l : List Placed} → needs T A p y ≡ true → Lowest T A p y (y ∷ l)
  lowest_later : {z : Placed} {l : List Placed} → needs T A p z ≡ false → Lowest T A p y l → Lowest T A p y (z ∷ l)
