-- Bindings in an array as the list of their types. Assumes nothing.
use mathlib.Core.List.{List, ◌∷◌}
use mathlib.Core.Option.{none, some}
use mathlib.Core.Path.{◌≡◌, refl, ap, ap₂, ◌∙◌}
use Prim.Native.Nat.{ℕ, zero, suc, ◌+◌, ◌-◌, ◌<◌, ◌≤◌}
use native.Mathlib.Nat.{le_refl}
use native.Mathlib.Numerals.{add-one}
use native.Mathlib.Omega.{arith}
use lib.ListN.{get_or, length, set}
use lib.Seq.{get_or-set_same, get_or-set_other}
use Rattle.typing.specs.Rules.{lookup_type}
use Rattle.rules.specs.Inference.{last_first}

set_other : (l : List ℕ) (k j v : ℕ) → j ≤ k → last_first (set l k v) j ≡ last_first l j
set_other l k zero v h = refl
set_other l k (suc j) v h = ap₂ (λ (x : ℕ) (y : List ℕ). x ∷ y) (get_or-set_other l k j v 0 (λ e. absurd (omega arith))) (set_other l k j v (omega arith))

pub push_context : (l : List ℕ) (k v : ℕ) → k < length l → last_first (set l k v) (k + 1) ≡ v ∷ last_first l k
push_context l k v h = rw add-one (ap₂ (λ (x : ℕ) (y : List ℕ). x ∷ y) (get_or-set_same l k v 0 h) (set_other l k k v (le_refl k)))

pub bound_in : (l : List ℕ) (n i : ℕ) → i < n → some (get_or l (n - 1 - i) 0) ≡ lookup_type (last_first l n) i
bound_in l zero i h = absurd (omega arith)
bound_in l (suc n) zero h = ap (λ (k : ℕ). some (get_or l k 0)) {x = suc n - 1 - 0} {y = n} (omega arith)
bound_in l (suc n) (suc i) h = ap (λ (k : ℕ). some (get_or l k 0)) {x = suc n - 1 - suc i} {y = n - 1 - i} (omega arith) ∙ bound_in l n i (omega arith)

pub bound_out : (l : List ℕ) (n i : ℕ) → n ≤ i → none ≡ lookup_type (last_first l n) i
bound_out l zero i h = refl
bound_out l (suc n) zero h = absurd (omega arith)
bound_out l (suc n) (suc i) h = bound_out l n i (omega arith)
