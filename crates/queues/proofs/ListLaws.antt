-- Laws of lists, of any elements.
use mathlib.Core.List.{List, [], ◌∷◌, map}
use mathlib.Core.Path.{◌≡◌, refl, ap}
use Prim.Native.Nat.{ℕ, zero, suc}
use lib.ListN.{length, take, set}

pub map_set : {A B : Type 0} (f : A → B) (l : List A) (n : ℕ) (x : A) → map f (set l n x) ≡ set (map f l) n (f x)
map_set f [] n x = refl
map_set f (y ∷ l) zero x = refl
map_set f (y ∷ l) (suc n) x = ap (λ (r : List _). f y ∷ r) (map_set f l n x)

module _ {A : Type 0} where
  -- as many as there are
  pub take_held : (n : ℕ) (l : List A) → take n l ≡ take (length (take n l)) l
  take_held zero l = refl
  take_held (suc n) [] = refl
  take_held (suc n) (x ∷ l) = ap (λ (r : List A). x ∷ r) (take_held n l)
