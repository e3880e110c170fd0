-- Runs, from what a run in the largest buffers promises to the promises of the block.
use mathlib.Core.Bool.{Bool, true, false, cond}
use mathlib.Core.List.{List, []}
use Rattle.std.specs.Prelude.{Result, Ok, Err}
use mathlib.Core.Path.{◌≡◌, refl, sym, ap, ◌∙◌}
use Prim.Native.Nat.{ℕ, ◌≤◌}
use lib.Dec.{eqb}
use lib.ListN.{set}
use mir.Val.{bool_byte}
use borrow.Author.Tests.{eq-eqb, ne_eqb}
use Rattle.program.specs.Bytes.{byte}
use Rattle.semantics.specs.Runs.{Buffers, are_largest, ran, After}
use Rattle.interp.specs.Answers.{refusal_cause, refusal_place, run_model, outcome_model, counts_model, buffers_of, after, empty_stack_request, Run}
use Rattle.interp.specs.declared.answer.RunRefusal as refusals
use Rattle.interp.specs.declared.answer.Ground.{Ground}
use Rattle.interp.specs.declared.answer.Ground.TheVariants.{Bool as VBool, Num}
use Rattle.interp.specs.declared.answer.RunCounts.{RunCounts}
use Rattle.stores.specs.Stops.{stop_cause, stop_place}
use Rattle.stores.specs.declared.values.Stop.{Stop}
use Rattle.numbers.specs.Codes.{CodeIs}
use Rattle.numbers.specs.declared.Code.{Code}
use Rattle.largest.specs.Largest.{largest_run}
use Rattle.largest.specs.Theorems.{largest_few}
use Rattle.blocks.specs.Block.{max_address, allowance, RunRegisters, registers_of, without, after_run, is_kept, Register, kept, fixed}
use Rattle.blocks.specs.Laws.{at_inside}
use Rattle.blocks.specs.Internal.{kept_of}
use Rattle.registers.specs.Writes.{Written, done, ran_on, commanded, write_to, write_of}
use Rattle.registers.specs.Internal.{end_registers, FewCalls}

-- its calls
pub few_calls : (s : List ℕ) (calls : ℕ) (cells posts : List ℕ) (right : Bool) (x : Run) (cells' posts' : List ℕ)
    → after x cells' posts' [] ≡ largest_run right s (empty_stack_request calls) (buffers_of cells posts []) → FewCalls x
few_calls s calls cells posts right (Err f) cells' posts' e = tt
few_calls s calls cells posts right (Ok r) cells' posts' e =
    (largest_few s (empty_stack_request calls) (buffers_of cells posts []) right (outcome_model r.outcome) (counts_model r.made)
    (sym (ap (λ (a : After). a.answer) e))).calls_most

-- ---- what its answer puts into the registers
module _ (m : RunCounts) where
  pub stop_registers : {o : Result Ground Stop} {x : Stop} {c : Code} → o ≡ Err x → CodeIs (stop_cause x) (stop_place x) c
      → record { flag = 2; cause = c.cause; value = 0; calls = m.calls; place = c.place } ≡ registers_of (ran (outcome_model o) (counts_model m))
  stop_registers e k =
      (λ i. record { flag = 2; cause = k.cause_is i; value = 0; calls = m.calls; place = k.place_is i })
      ∙ sym (ap (λ (o : Result Ground Stop). registers_of (ran (outcome_model o) (counts_model m))) e)

  abbrev ends_in : Ground → RunRegisters
  ends_in v = registers_of (ran (outcome_model (Ok v)) (counts_model m))

  by_bool : (b : Bool) → end_registers (bool_byte b) m.calls ≡ ends_in (VBool b)
  by_bool true = refl
  by_bool false = refl

  pub bool_registers : {o : Result Ground Stop} {b : Bool} {t : RunRegisters} → o ≡ Ok (VBool b) → t ≡ end_registers (bool_byte b) m.calls
      → t ≡ registers_of (ran (outcome_model o) (counts_model m))
  bool_registers {b = b} e h = h ∙ by_bool b ∙ sym (ap (λ (o : Result Ground Stop). registers_of (ran (outcome_model o) (counts_model m))) e)

  pub num_registers : {o : Result Ground Stop} {n : ℕ} {t : RunRegisters} → o ≡ Ok (Num n) → t ≡ end_registers n m.calls → t
      ≡ registers_of (ran (outcome_model o) (counts_model m))
  num_registers e h = h ∙ sym (ap (λ (o : Result Ground Stop). registers_of (ran (outcome_model o) (counts_model m))) e)

pub refusal_registers : {x : Run} {f : refusals.RunRefusal} {c : Code} → x ≡ Err f → CodeIs (refusal_cause f) (refusal_place f) c
    → record { flag = 4; cause = c.cause; value = 0; calls = 0; place = c.place } ≡ registers_of (run_model x)
refusal_registers e k =
    (λ i. record { flag = 4; cause = k.cause_is i; value = 0; calls = 0; place = k.place_is i }) ∙ sym (ap (λ (r : Run). registers_of (run_model r)) e)

-- ---- a write, by its address
module _ (block s cells posts : List ℕ) (v : ℕ) where
  abbrev B : Buffers
  B = buffers_of cells posts []

  pub not_run : (v ≡ 1 → ⊥) → done block B ≡ commanded (eqb v 1) block s B
  not_run ne = sym (ap (λ (x : Bool). commanded x block s B) (ne_eqb v 1 ne))

  pub has_run : v ≡ 1 → (x : Run) {calls : ℕ} {cells' posts' : List ℕ} {t : RunRegisters} {block' : List ℕ} → calls ≡ allowance block
      → after x cells' posts' [] ≡ largest_run (are_largest B) s (empty_stack_request calls) B → t ≡ registers_of (run_model x) → block' ≡ after_run block t
      → done block' (buffers_of cells' posts' []) ≡ commanded (eqb v 1) block s B
  has_run e x {cells' = cells'} {posts' = posts'} f g h k =
      (λ i. done ((k ∙ ap (after_run block) h) i) (buffers_of cells' posts' []))
      ∙ ap (ran_on block) (g ∙ ap (λ (n : ℕ). largest_run (are_largest B) s (empty_stack_request n) B) f)
      ∙ sym (ap (λ (x : Bool). commanded x block s B) (eq-eqb v 1 e))

  module _ (a : ℕ) where
    pub to_command : {w : Written} → a ≡ 0 → w ≡ commanded (eqb v 1) block s B → w ≡ write_of block a v s B
    to_command e h = h ∙ sym (ap (λ (n : ℕ). write_of block n v s B) e)

    pub to_status : {m : ℕ} {block' : List ℕ} → a ≡ 1 → m ≡ without (byte block 1) v → block' ≡ set block 1 m → done block' B ≡ write_of block a v s B
    to_status e f h = (λ i. done ((h ∙ ap (set block 1) f) i) B) ∙ sym (ap (λ (n : ℕ). write_of block n v s B) e)

    keeps : (k : Bool) → done (kept_of k block a v) B ≡ write_to (cond k kept fixed) block a v s B
    keeps true = refl
    keeps false = refl

    pub to_kept : {block' : List ℕ} → 2 ≤ a → a ≤ max_address → block' ≡ kept_of (is_kept a) block a v → done block' B ≡ write_of block a v s B
    to_kept l h e =
        ap (λ (x : List ℕ). done x B) e ∙ keeps (is_kept a)
        ∙ sym (ap (λ (r : Register). write_to r block a v s B) (at_inside a l h))
