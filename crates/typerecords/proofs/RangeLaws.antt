-- What `all` and `any` answer over the numbers below n, said of the numbers and not of a list of them.
use Rattle.std.proofs.Common.{ℕ, ◌<◌, length, subst, arith}
use Rattle.std.specs.List.{range_with_len, AllWithin, HoldsAt}
use Rattle.std.proofs.lemmas.List.FromFn.{length-range_with_len, get_or-range_with_len}

module _ (n : ℕ) (P : ℕ → Type 0) where
  pub each_number : AllWithin P (range_with_len 0 n) 0 (length (range_with_len 0 n)) → (k : ℕ) → k < n → P k
  each_number h k l =
      subst P (omega (arith, get_or-range_with_len 0 n k 0 l)) (h k 0 (omega arith) (omega (arith, length-range_with_len 0 n)))

  pub some_number : (k : ℕ) × (k < length (range_with_len 0 n)) × HoldsAt P (range_with_len 0 n) k → (k : ℕ) × (k < n) × P k
  some_number h =
      let l : h.0 < n = omega (arith, h.1, length-range_with_len 0 n) in
      (h.0, l, subst P (omega (arith, get_or-range_with_len 0 n h.0 0 l)) (h.2 0))
