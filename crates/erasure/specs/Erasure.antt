-- The whole answer of erasure, and the lent buffer afterwards. 02, W9: "The answer tells the new sheet's length, and bytes of the lent buffer after it are
-- untouched. The judge's refusals come first, then a test or version 2 is 32 and a buffer shorter than the new sheet 33, and the buffer is untouched by any
-- of them."
use Rattle.std.specs.Prelude.{Bool, true, false, List, ◌++◌, ℕ, leb, length, drop}
use Rattle.typing.specs.Verdicts.{Verdict, accepted, rejected, verdict}
use Rattle.erasure.specs.Lean.{lean_sheet, erasable}

pub data ErasureAnswer : Type 0 where
  refused : (cause place : ℕ) → ErasureAnswer
  lean : (length : ℕ) → ErasureAnswer

pub record AfterErasure : Type 0 where
  pub answer : ErasureAnswer
  pub buffer : List ℕ

abbrev pub untouched : (cause place : ℕ) → (buffer : List ℕ) → AfterErasure
untouched cause place b = record { answer = refused cause place; buffer = b }

-- the new sheet, followed by the buffer's rest
abbrev pub lean_written : (sheet buffer : List ℕ) → AfterErasure
lean_written new b = record { answer = lean (length new); buffer = new ++ drop (length new) b }

abbrev pub if_room : Bool → (sheet buffer : List ℕ) → AfterErasure
if_room true new b = lean_written new b
if_room false new b = untouched 33 0 b

abbrev pub if_erasable : (erasable room : Bool) → (sheet buffer : List ℕ) → AfterErasure
if_erasable true room new b = if_room room new b
if_erasable false room new b = untouched 32 0 b

abbrev pub erased : Verdict → List ℕ → (buffer : List ℕ) → AfterErasure
erased (accepted n τ N) s b = if_erasable (erasable s) (leb (length (lean_sheet s)) (length b)) (lean_sheet s) b
erased (rejected c p) s b = untouched c p b

unfoldable pub erasure : List ℕ → (buffer : List ℕ) → AfterErasure
erasure s b = erased (verdict s) s b
