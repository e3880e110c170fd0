-- What the decoder answers of any bytes.
use Rattle.std.specs.Prelude.{List, ◌≡◌, ℕ, Result}
use Rattle.program.specs.Screening.{Screening}
use Rattle.program.specs.Answers.{decoded_model, Counted}
use Rattle.program.specs.declared.answer.Refusal.{Refusal}
use Rattle.program.specs.declared.records.Counts.{Counts}

-- the answer tells what screening the sheet finds, and a readable sheet comes with its counts
pub record DecodedAs (s : List ℕ) (x : Screening) (r : Result Counts Refusal) : Type 0 where
  pub answer_is : decoded_model r ≡ x
  pub counts_are : Counted s r
