-- What a write to the register block answers and leaves, with the run that it may ask for: 02, W2. `blocks`, Block has the block itself.
use Rattle.std.specs.Prelude.{Bool, true, false, List, ℕ, eqb, set}
use Rattle.interp.specs.Answers.{empty_stack_request}
use Rattle.program.specs.Bytes.{byte}
use Rattle.semantics.specs.Runs.{Buffers, are_largest, After}
use Rattle.largest.specs.Largest.{largest_run}
use Rattle.blocks.specs.Block.{allowance, registers_of, without, after_run, WriteAnswer, write_done, write_refused, Register, command, status, kept, fixed, absent, register_at}

-- "with 100 open calls and the largest buffers, which are lent"
abbrev pub block_run : (block s : List ℕ) → Buffers → After
block_run block s b = largest_run (are_largest b) s (empty_stack_request (allowance block)) b

-- what a write answers, and what it leaves
pub record Written : Type 0 where
  pub answer : WriteAnswer
  pub block : List ℕ
  pub buffers : Buffers

abbrev pub done : (block : List ℕ) → Buffers → Written
done block b = record { answer = write_done; block = block; buffers = b }

abbrev pub ran_on : (block : List ℕ) → After → Written
ran_on block a = done (after_run block (registers_of a.answer)) a.buffers

-- "Writing 1 to command runs the loaded sheet"; "Other command values … change nothing"
abbrev pub commanded : (is_one : Bool) (block s : List ℕ) → Buffers → Written
commanded true block s b = ran_on block (block_run block s b)
commanded false block s b = done block b

-- "Writing status clears the bits written as one."; "writes to 2 and 6 to 15 change nothing"; 23 "leaves the block"
abbrev pub write_to : Register → (block : List ℕ) (address value : ℕ) (s : List ℕ) → Buffers → Written
write_to command block a v s b = commanded (eqb v 1) block s b
write_to status block a v s b = done (set block 1 (without (byte block 1) v)) b
write_to kept block a v s b = done (set block a v) b
write_to fixed block a v s b = done block b
write_to absent block a v s b = record { answer = write_refused 23 0; block = block; buffers = b }

abbrev pub write_of : (block : List ℕ) (address value : ℕ) (s : List ℕ) → Buffers → Written
write_of block a v s b = write_to (register_at a) block a v s b
