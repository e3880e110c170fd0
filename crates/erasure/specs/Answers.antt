-- The papers' number and values of each case that erasure answers: the type checker's refusals, and 02's 32 and 33 (W9), "place 0, as wherever a number
-- has none named".
use Rattle.std.specs.Prelude.{ℕ, Result, Ok, Err}
use Rattle.typing.specs.Answers.{rejection_cause, rejection_place}
use Rattle.erasure.specs.Erasure.{ErasureAnswer, refused, lean}
use Rattle.erasure.specs.declared.answer.ErasureRefusal.{ErasureRefusal}
use Rattle.erasure.specs.declared.answer.ErasureRefusal.TheVariants.{Rejected, NotErasable, NoRoom}

-- the lean sheet's length, or the refusal
abbrev pub erased_model : Result ℕ ErasureRefusal → ErasureAnswer
erased_model (Ok n) = lean n
erased_model (Err (Rejected r)) = refused (rejection_cause r) (rejection_place r)
erased_model (Err NotErasable) = refused 32 0
erased_model (Err NoRoom) = refused 33 0
