-- Laws of lists, of any elements.
use mathlib.Core.List.{List}
use mathlib.Core.Path.{◌≡◌, sym, ap, ◌∙◌}
use Prim.Native.Nat.{ℕ, ◌≤◌, min}
use native.Mathlib.Decide.{dec_le}
use native.Mathlib.Omega.{arith}
use lib.ListN.{length, take, drop, drop_of_length-le}
use lib.Seq.{take_all}

-- a place that lies past the end is its end
module _ {A : Type 0} (n : ℕ) (l : List A) where
  pub take_least : take (min n (length l)) l ≡ take n l
  take_least = go (dec_le n (length l))
    where
      go : Dec (n ≤ length l) → take (min n (length l)) l ≡ take n l
      go (yes h) = let e : min n (length l) ≡ n = omega arith in ap (λ (k : ℕ). take k l) e
      go (no h) = take_all (min n (length l)) l (omega arith) ∙ sym (take_all n l (omega arith))

  pub drop_least : drop (min n (length l)) l ≡ drop n l
  drop_least = go (dec_le n (length l))
    where
      go : Dec (n ≤ length l) → drop (min n (length l)) l ≡ drop n l
      go (yes h) = let e : min n (length l) ≡ n = omega arith in ap (λ (k : ℕ). drop k l) e
      go (no h) = drop_of_length-le l {i = min n (length l)} (omega arith) ∙ sym (drop_of_length-le l {i = n} (omega arith))
