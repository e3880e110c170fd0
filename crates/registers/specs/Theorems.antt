-- What a reader may count on: the mask and the allowance keep what is written; the command and the bytes from 12 on are zero; an address above 15 leaves the
-- block; a write that runs nothing leaves the buffers, and so does a run that is refused; and a block keeps its 16 bytes.
use Rattle.std.specs.Prelude.{Bool, true, false, cond, List, [], ◌∷◌, ◌≡◌, refl, ℕ, ◌+◌, ◌*◌, ◌≤◌, ◌<◌, leb, eqb, length}
use Rattle.std.proofs.Common.{sym, ap, ◌∙◌, subst, arith, lit≤, length-set, get_or-set_same, get_or-set_other, leb-true, ne_eqb}
use Rattle.std.proofs.Math.Decide.{ℕ_discrete}
use Rattle.interp.specs.Answers.{empty_stack_request}
use Rattle.privileges.specs.Booleans.{and_left, and_right}
use Rattle.program.specs.Bytes.{byte}
use Rattle.semantics.specs.Runs.{Buffers, are_largest, refused}
use Rattle.largest.specs.Theorems.{largest_untouched}
use Rattle.blocks.specs.Block.{block_bytes, max_address, new_block, allowance, RunRegisters, registers_of, without, after_run, write_refused, is_kept, Register, command, status, kept, fixed, absent, register_at}
use Rattle.blocks.specs.Laws.{at_kept, at_fixed, at_absent}
use Rattle.blocks.specs.Theorems.{run_keeps}
use Rattle.registers.specs.Writes.{block_run, done, ran_on, commanded, write_to, write_of}

-- ---- "An address above 15 is answered with 23 and leaves the block."
pub absent_written : (block : List ℕ) (a : ℕ) → max_address < a → (v : ℕ) (s : List ℕ) (b : Buffers)
    → write_of block a v s b ≡ record { answer = write_refused 23 0; block = block; buffers = b }
absent_written block a above v s b = ap (λ (r : Register). write_to r block a v s b) (at_absent a above)

-- ---- "Other command values and writes to 2 and 6 to 15 change nothing."
pub command_runs : (block s : List ℕ) (b : Buffers) → write_of block 0 1 s b ≡ ran_on block (block_run block s b)
command_runs block s b = refl

module _ (block : List ℕ) (v : ℕ) (s : List ℕ) (b : Buffers) where
  pub command_unchanged : (v ≡ 1 → ⊥) → write_of block 0 v s b ≡ done block b
  command_unchanged ne = ap (λ (x : Bool). commanded x block s b) (ne_eqb v 1 ne)

  pub two_unchanged : write_of block 2 v s b ≡ done block b
  two_unchanged = refl

  pub six_unchanged : (a : ℕ) → 6 ≤ a → a ≤ max_address → write_of block a v s b ≡ done block b
  six_unchanged a h l = ap (λ (r : Register). write_to r block a v s b) (at_fixed a h l)

-- ---- "3 to 5 keep what is written": by every sequence of writes that does not write them, with its runs
-- a write, with the sheet and the buffers that are lent for it
pub record Write : Type 0 where
  pub address : ℕ
  pub value : ℕ
  pub sheet : List ℕ
  pub buffers : Buffers

abbrev pub after_all : (block : List ℕ) → List Write → List ℕ
after_all block [] = block
after_all block (w ∷ ws) = after_all (write_of block w.address w.value w.sheet w.buffers).block ws

pub data Spares (address : ℕ) : List Write → Type 0 where
  spares_end : Spares address []
  spares_next : {w : Write} {ws : List Write} → (w.address ≡ address → ⊥) → Spares address ws → Spares address (w ∷ ws)

module _ (k : ℕ) (from : 3 ≤ k) (to : k ≤ 5) where
  command_keeps : (x : Bool) (block s : List ℕ) (b : Buffers) → byte (commanded x block s b).block k ≡ byte block k
  command_keeps true block s b = run_keeps block (registers_of (block_run block s b).answer) k from to
  command_keeps false block s b = refl

  write_keeps : (r : Register) (block : List ℕ) (a v : ℕ) (s : List ℕ) (b : Buffers) → (a ≡ k → ⊥) → byte (write_to r block a v s b).block k ≡ byte block k
  write_keeps command block a v s b ne = command_keeps (eqb v 1) block s b
  write_keeps status block a v s b ne = get_or-set_other block 1 k (without (byte block 1) v) 0 (λ e. omega (arith, e))
  write_keeps kept block a v s b ne = get_or-set_other block a k v 0 (λ e. ne (sym e))
  write_keeps fixed block a v s b ne = refl
  write_keeps absent block a v s b ne = refl

  pub survives : {ws : List Write} (block : List ℕ) → Spares k ws → byte (after_all block ws) k ≡ byte block k
  survives block spares_end = refl
  survives block (spares_next {w} {ws} ne rest) =
      survives (write_of block w.address w.value w.sheet w.buffers).block rest
      ∙ write_keeps (register_at w.address) block w.address w.value w.sheet w.buffers ne

  pub written_survives : (block : List ℕ) → length block ≡ block_bytes → (v : ℕ) (s : List ℕ) (b : Buffers) {ws : List Write} → Spares k ws
      → byte (after_all (write_of block k v s b).block ws) k ≡ v
  written_survives block size v s b spared =
      survives (write_of block k v s b).block spared ∙ ap (λ (r : Register). byte (write_to r block k v s b).block k) (at_kept k from to)
      ∙ get_or-set_same block k v 0 (omega arith)

pub allowance_survives : {ws : List Write} (block : List ℕ) → Spares 4 ws → Spares 5 ws → allowance (after_all block ws) ≡ allowance block
allowance_survives block f g = λ i. survives 4 (lit≤ tt) (lit≤ tt) block f i * 256 + survives 5 (lit≤ tt) (lit≤ tt) block g i

-- ---- "the rest zero", and "command reads as zero": by every sequence of writes to a new block
-- An address that is none of 1 to 5, and that a run leaves zero, stays zero: a write sets no other.
module _ (k : ℕ) (apart : (a : ℕ) → 1 ≤ a → a ≤ 5 → k ≡ a → ⊥)
    (run-zero : (block : List ℕ) (t : RunRegisters) → byte block k ≡ 0 → byte (after_run block t) k ≡ 0) where
  commanded_zero : (x : Bool) (block s : List ℕ) (b : Buffers) → byte block k ≡ 0 → byte (commanded x block s b).block k ≡ 0
  commanded_zero true block s b e = run-zero block (registers_of (block_run block s b).answer) e
  commanded_zero false block s b e = e

  written_zero : (block : List ℕ) (a v : ℕ) (s : List ℕ) (b : Buffers) → byte block k ≡ 0 → byte (write_of block a v s b).block k ≡ 0
  written_zero block a v s b e = go (eqb a 0) (eqb a 1) (leb a max_address) (is_kept a) refl
    where
      go : (x y z u : Bool) → is_kept a ≡ u
          → byte (write_to (cond x command (cond y status (cond z (cond u kept fixed) absent))) block a v s b).block k ≡ 0
      go true y z u f = commanded_zero (eqb v 1) block s b e
      go false true z u f = get_or-set_other block 1 k (without (byte block 1) v) 0 (apart 1 (lit≤ tt) (lit≤ tt)) ∙ e
      go false false true true f =
          let from = leb-true 3 a (and_left (leb 3 a) (leb a 5) f) in
          let to = leb-true a 5 (and_right (leb 3 a) (leb a 5) f) in
          get_or-set_other block a k v 0 (apart a (omega (arith, from)) to) ∙ e
      go false false true false f = e
      go false false false u f = e

  stays_zero : (ws : List Write) (block : List ℕ) → byte block k ≡ 0 → byte (after_all block ws) k ≡ 0
  stays_zero [] block e = e
  stays_zero (w ∷ ws) block e =
      stays_zero ws (write_of block w.address w.value w.sheet w.buffers).block
      (written_zero block w.address w.value w.sheet w.buffers e)

pub command_reads_zero : (ws : List Write) → byte (after_all new_block ws) 0 ≡ 0
command_reads_zero ws = stays_zero 0 (λ a h l e. omega (arith, h, e)) (λ block t e. refl) ws new_block refl

-- the last four addresses
from_twelve : (P : ℕ → Type 0) → P 12 → P 13 → P 14 → P 15 → (k : ℕ) → 12 ≤ k → k ≤ max_address → P k
from_twelve P p q r s k h l = go (ℕ_discrete k 12) (ℕ_discrete k 13) (ℕ_discrete k 14)
  where
    go : Dec (k ≡ 12) → Dec (k ≡ 13) → Dec (k ≡ 14) → P k
    go (yes e) b c = subst P (sym e) p
    go (no a) (yes e) c = subst P (sym e) q
    go (no a) (no b) (yes e) = subst P (sym e) r
    go (no a) (no b) (no c) = let e : k ≡ 15 = omega arith in subst P (sym e) s

pub rest_zero : (ws : List Write) (k : ℕ) → 12 ≤ k → k ≤ max_address → byte (after_all new_block ws) k ≡ 0
rest_zero ws = from_twelve (λ k. byte (after_all new_block ws) k ≡ 0)
    (stays_zero 12 (λ a h l e. omega (arith, l, e)) (λ block t e. e) ws new_block refl)
    (stays_zero 13 (λ a h l e. omega (arith, l, e)) (λ block t e. e) ws new_block refl)
    (stays_zero 14 (λ a h l e. omega (arith, l, e)) (λ block t e. e) ws new_block refl)
    (stays_zero 15 (λ a h l e. omega (arith, l, e)) (λ block t e. e) ws new_block refl)

-- ---- a write that runs nothing leaves both buffers as they were, and so does a run that is refused
module _ (block : List ℕ) (a v : ℕ) (s : List ℕ) (b : Buffers) where
  abbrev beside : (x y z : Bool) → Register
  beside x y z = cond x status (cond y (cond z kept fixed) absent)

  beside_untouched : (x y z : Bool) → (write_to (beside x y z) block a v s b).buffers ≡ b
  beside_untouched true y z = refl
  beside_untouched false true true = refl
  beside_untouched false true false = refl
  beside_untouched false false z = refl

  pub write_untouched : (a ≡ 0 → ⊥) → (write_of block a v s b).buffers ≡ b
  write_untouched ne =
      ap (λ (x : Bool). (write_to (cond x command (beside (eqb a 1) (leb a max_address) (is_kept a))) block a v s b).buffers) (ne_eqb a 0 ne)
      ∙ beside_untouched (eqb a 1) (leb a max_address) (is_kept a)

pub refusal_untouched : (block s : List ℕ) (b : Buffers) (c p : ℕ) → (block_run block s b).answer ≡ refused c p → (write_of block 0 1 s b).buffers ≡ b
refusal_untouched block s b c p e = largest_untouched s (empty_stack_request (allowance block)) b (are_largest b) c p e

-- ---- a block keeps its 16 bytes
command_length : (x : Bool) (block s : List ℕ) (b : Buffers) → length block ≡ block_bytes → length (commanded x block s b).block ≡ 16
command_length true block s b e = refl
command_length false block s b e = e

write_length : (r : Register) (block : List ℕ) (a v : ℕ) (s : List ℕ) (b : Buffers) → length block ≡ block_bytes → length (write_to r block a v s b).block ≡ 16
write_length command block a v s b e = command_length (eqb v 1) block s b e
write_length status block a v s b e = length-set block 1 (without (byte block 1) v) ∙ e
write_length kept block a v s b e = length-set block a v ∙ e
write_length fixed block a v s b e = e
write_length absent block a v s b e = e

pub length_kept : (block : List ℕ) → length block ≡ block_bytes → (a v : ℕ) (s : List ℕ) (b : Buffers) → length (write_of block a v s b).block ≡ 16
length_kept block e a v s b = write_length (register_at a) block a v s b e
