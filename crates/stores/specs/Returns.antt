-- What a function answers, and what it leaves in the store that it is lent.
use Rattle.std.specs.Prelude.{List, ◌≡◌, ℕ}

pub record Returned {A : Type 0} (r answer : A) (store' store : List ℕ) : Type 0 where
  pub answer_is : r ≡ answer
  pub store_is : store' ≡ store
