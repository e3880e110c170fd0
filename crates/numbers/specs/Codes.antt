-- What is told of a refusal or a stop: 01's number of its cause, and its place.
use Rattle.std.specs.Prelude.{◌≡◌, ℕ}
use Rattle.numbers.specs.declared.Code.{Code}

pub record CodeIs (cause place : ℕ) (r : Code) : Type 0 where
  pub cause_is : r.cause ≡ cause
  pub place_is : r.place ≡ place
