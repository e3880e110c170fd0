-- 02's number and values for each case of an access's answer.
use Rattle.std.specs.Prelude.{ℕ, Result, Ok, Err}
use Rattle.blocks.specs.Block.{ReadAnswer, read_byte, read_refused, WriteAnswer, write_done, write_refused}
use Rattle.blocks.specs.declared.block.NoRegister.{NoRegister}

-- "An address above 15 is answered with 23"; no place is named, so it is 0
abbrev pub read_answer_model : Result ℕ NoRegister → ReadAnswer
read_answer_model (Ok b) = read_byte b
read_answer_model (Err x) = read_refused 23 0

abbrev pub write_answer_model : Result (Unit {0}) NoRegister → WriteAnswer
write_answer_model (Ok u) = write_done
write_answer_model (Err x) = write_refused 23 0
