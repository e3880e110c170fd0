-- What the entries for a register block return and write: a status, eight numbers, the block, and for a write the buffers. 02, W2.
use Rattle.std.specs.Prelude.{Bool, cond, List, [], ◌∷◌, ℕ}
use Rattle.program.specs.Bytes.{bit}
use Rattle.semantics.specs.Runs.{Buffers}
use Rattle.blocks.specs.Block.{block_bytes, ReadAnswer, read_byte, read_refused, WriteAnswer, write_done, write_refused, read_of, raised}
use Rattle.registers.specs.Writes.{Written, write_of}
use Rattle.replies.specs.Replies.{Reply, answer_numbers, unfit, written, not_done, returned_reply}

-- a cause and its place, whether the interrupt is raised after the access, and the byte read; a run's own answer stands in the block
abbrev pub accessed : (status cause place : ℕ) (raised : Bool) (byte : ℕ) → Reply
accessed status c p r n = record { status = status; numbers = c ∷ p ∷ bit r ∷ n ∷ 0 ∷ 0 ∷ 0 ∷ 0 ∷ [] }

abbrev pub read_reply : ReadAnswer → (raised : Bool) → Reply
read_reply (read_byte n) r = accessed 0 0 0 r n
read_reply (read_refused c p) r = accessed 2 c p r 0

abbrev pub write_reply : WriteAnswer → (raised : Bool) → Reply
write_reply write_done r = accessed 0 0 0 r 0
write_reply (write_refused c p) r = accessed 2 c p r 0

-- A block of another length than 16, or a short list: 3; nothing is done, and nothing is written anywhere.
abbrev pub block_read : (block : List ℕ) (address : ℕ) (answer : List ℕ) → Reply
block_read block a answer = cond (unfit block_bytes answer_numbers block answer) (not_done answer)
    (written (read_reply (read_of block a) (raised block)) answer)

-- what a write returned and left
pub record BlockLeft : Type 0 where
  pub reply : Reply
  pub block : List ℕ
  pub buffers : Buffers

abbrev pub returned_block : (status : ℕ) (answer block : List ℕ) → Buffers → BlockLeft
returned_block status answer block b = record { reply = returned_reply status answer; block = block; buffers = b }

abbrev pub after_write : (answer : List ℕ) → Written → BlockLeft
after_write answer w = record { reply = written (write_reply w.answer (raised w.block)) answer; block = w.block; buffers = w.buffers }

abbrev pub block_write : (block : List ℕ) (address value : ℕ) (s : List ℕ) → Buffers → (answer : List ℕ) → BlockLeft
block_write block a v s b answer = cond (unfit block_bytes answer_numbers block answer) (record { reply = not_done answer; block = block; buffers = b })
    (after_write answer (write_of block a v s b))
