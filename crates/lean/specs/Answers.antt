-- The answer of `erase` and what the buffer then holds, in the words of the definition.
use Rattle.std.specs.Prelude.{List, ℕ, Result}
use Rattle.erasure.specs.Erasure.{AfterErasure}
use Rattle.erasure.specs.Answers.{erased_model}
use Rattle.erasure.specs.declared.answer.ErasureRefusal.{ErasureRefusal}

abbrev pub after_erasure : Result ℕ ErasureRefusal → (buffer : List ℕ) → AfterErasure
after_erasure r b = record { answer = erased_model r; buffer = b }
