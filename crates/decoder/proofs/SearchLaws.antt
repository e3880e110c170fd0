-- Two tests that agree have the same lowest number that fails.
use mathlib.Core.Bool.{Bool}
use mathlib.Core.Path.{◌≡◌, refl}
use Prim.Native.Nat.{ℕ, zero, suc, ◌+◌, ◌<◌}
use native.Mathlib.Omega.{arith}
use Rattle.program.specs.Screening.{onward, lowest}

pub same_lowest : (f g : ℕ → Bool) (i n : ℕ) → ((x : ℕ) → x < i + n → f x ≡ g x) → lowest f i n ≡ lowest g i n
same_lowest f g i zero h = refl
same_lowest f g i (suc n) h = λ j. onward (h i (omega arith) j) i (λ _. same_lowest f g (suc i) n (λ x q. h x (omega arith)) j)
