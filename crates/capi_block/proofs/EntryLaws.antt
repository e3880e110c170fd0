-- What the entries for a register block leave, from the promises of the functions that they call.
use mathlib.Core.Bool.{Bool, true, false, cond}
use mathlib.Core.List.{List, [], ◌∷◌}
use mathlib.Core.Path.{◌≡◌, refl, sym, ap, ◌∙◌}
use Prim.Native.Nat.{ℕ, ◌≤◌}
use lib.ListN.{length}
use mir.Val.{bool_byte}
use Rattle.semantics.specs.Runs.{Buffers}
use Rattle.interp.specs.Answers.{buffers_of}
use Rattle.blocks.specs.Block.{block_bytes, ReadAnswer, read_of, raised}
use Rattle.blocks.specs.Answers.{write_answer_model}
use Rattle.registers.specs.Writes.{write_of}
use Rattle.registers.specs.Answers.{written_model}
use Rattle.std.specs.Prelude.{Result}
use Rattle.blocks.specs.declared.block.Block.{Block}
use Rattle.blocks.specs.declared.block.NoRegister.{NoRegister}
use Rattle.replies.specs.Replies.{answer_numbers, unfit, written, not_done, returned_reply}
use Rattle.replies.specs.Laws.{fit, in_place}
use Rattle.capi_block.specs.Blocks.{accessed, read_reply, write_reply, block_read, returned_block, after_write, block_write}
use Rattle.replies.specs.Internal.{reply_model, Put}
use Rattle.replies.specs.declared.Reply.{Reply}

pub replied_by : (status cause byte : ℕ) (r : Bool)
    → record { status = status; numbers = cause ∷ 0 ∷ bool_byte r ∷ byte ∷ 0 ∷ 0 ∷ 0 ∷ 0 ∷ [] } ≡ accessed status cause 0 r byte
replied_by status cause byte true = refl
replied_by status cause byte false = refl

module _ (block answer : List ℕ) where
  -- ---- nothing is done
  pub short_read : (a : ℕ) → unfit block_bytes answer_numbers block answer ≡ true → returned_reply 3 answer ≡ block_read block a answer
  short_read a e = λ i. cond (sym e i) (not_done answer) (written (read_reply (read_of block a) (raised block)) answer)

  pub short_write : (a v : ℕ) (s : List ℕ) (b : Buffers) → unfit block_bytes answer_numbers block answer ≡ true
      → returned_block 3 answer block b ≡ block_write block a v s b answer
  short_write a v s b e = λ i. cond (sym e i) (returned_block 3 answer block b) (after_write answer (write_of block a v s b))

  -- ---- the access is done
  module _ (size : length block ≡ block_bytes) (room : 8 ≤ length answer) {loaded : List ℕ} (load : loaded ≡ block) {x : Reply} {status : ℕ} {after : List ℕ}
      (put : Put x answer status after) where
    pub read_given : (a : ℕ) {m : ReadAnswer} {r : Bool} → m ≡ read_of loaded a → r ≡ raised loaded → reply_model x ≡ read_reply m r
        → returned_reply status after ≡ block_read block a answer
    read_given a f g e =
        in_place answer room (e ∙ (λ i. read_reply ((f ∙ ap (λ (l : List ℕ). read_of l a) load) i) ((g ∙ ap raised load) i))) put
        ∙ (λ i. cond (sym (fit block_bytes answer_numbers block answer size room) i) (not_done answer)
        (written (read_reply (read_of block a) (raised block)) answer))

    pub write_given : (a v : ℕ) (s : List ℕ) (b : Buffers) (w : Result (Unit {0}) NoRegister) (now : Block) {cells posts block' : List ℕ} {r : Bool}
        → written_model w now cells posts ≡ write_of loaded a v s b → block' ≡ now.bytes → r ≡ raised now.bytes
        → reply_model x ≡ write_reply (write_answer_model w) r
        → returned_block status after block' (buffers_of cells posts []) ≡ block_write block a v s b answer
    write_given a v s b w now {cells = cells} {posts = posts} f g h e =
        (λ i. record {
          reply = in_place answer room
              (e ∙ ap (write_reply (write_answer_model w)) h) put i;
          block = g i;
          buffers = buffers_of cells posts [];
        })
        ∙ ap (after_write answer) (f ∙ ap (λ (l : List ℕ). write_of l a v s b) load)
        ∙ (λ i. cond (sym (fit block_bytes answer_numbers block answer size room) i) (returned_block 3 answer block b)
        (after_write answer (write_of block a v s b)))
