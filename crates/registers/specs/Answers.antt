-- A write's answer and the block that it leaves, as the definition has them.
use Rattle.std.specs.Prelude.{List, [], ℕ, Result}
use Rattle.interp.specs.Answers.{buffers_of}
use Rattle.blocks.specs.Answers.{write_answer_model}
use Rattle.blocks.specs.declared.block.Block.{Block}
use Rattle.blocks.specs.declared.block.NoRegister.{NoRegister}
use Rattle.registers.specs.Writes as writes

-- with the block and what the buffers then hold
abbrev pub written_model : Result (Unit {0}) NoRegister → Block → (cells posts : List ℕ) → writes.Written
written_model r b cells posts = record { answer = write_answer_model r; block = b.bytes; buffers = buffers_of cells posts [] }
