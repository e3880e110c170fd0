-- The answer and the buffer from the verdict on the sheet: the type checker's refusals, 32, 33 and the lean sheet. Assumes nothing.
use mathlib.Core.Bool.{Bool, true, false}
use mathlib.Core.List.{List, ◌++◌}
use mathlib.Core.Path.{◌≡◌, refl, sym, ◌∙◌}
use Prim.Native.Nat.{ℕ, ◌<◌, ◌≤◌}
use native.Mathlib.Omega.{arith}
use lib.Dec.{leb}
use lib.ListN.{length, drop}
use borrow.Author.Tests.{lt-leb, le-leb}
use Rattle.std.specs.Prelude.{Ok, Err}
use Rattle.program.specs.declared.records.Counts.{Counts}
use Rattle.typing.specs.Verdicts.{Verdict, rejected, verdict}
use Rattle.typing.specs.Answers.{rejection_cause, rejection_place}
use Rattle.typing.specs.declared.answer.Rejection.{Rejection}
use Rattle.accessors.specs.Internal.{FormedSheet}
use Rattle.erasure.specs.Lean.{lean_sheet, erasable}
use Rattle.erasure.specs.Erasure.{AfterErasure, if_room, if_erasable, erased, erasure}
use Rattle.erasure.specs.declared.answer.ErasureRefusal.TheVariants.{Rejected, NotErasable, NoRoom}
use Rattle.lean.specs.Answers.{after_erasure}
use Rattle.renumbering.specs.Internal.{TypesNumbered, TermsNumbered}
use Rattle.leanwriting.specs.Internal.{SheetReady}
use Rattle.renumbering.specs.declared.numbers.Numbers.{Numbers}

-- ---- the verdict
module _ (s b : List ℕ) where
  by_verdict : {a : AfterErasure} (v : Verdict) → v ≡ verdict s → a ≡ erased v s b → a ≡ erasure s b
  unfolding erasure
  by_verdict v e h = h ∙ λ i. erased (e i) s b

  pub rejected_erasure : (r : Rejection) → rejected (rejection_cause r) (rejection_place r) ≡ verdict s → after_erasure (Err (Rejected r)) b ≡ erasure s b
  rejected_erasure r e = by_verdict (rejected (rejection_cause r) (rejection_place r)) e refl

-- ---- 32, 33 and the sheet
module _ (s b : List ℕ) where
  abbrev due : AfterErasure
  due = if_erasable (erasable s) (leb (length (lean_sheet s)) (length b)) (lean_sheet s) b

  pub not_erasable : {z : Bool} → z ≡ erasable s → z ≡ false → after_erasure (Err NotErasable) b ≡ due
  not_erasable e f = λ i. if_erasable ((sym f ∙ e) i) (leb (length (lean_sheet s)) (length b)) (lean_sheet s) b

  module _ {z : Bool} (e : z ≡ erasable s) (f : z ≡ true) {size : ℕ} (q : size ≡ length (lean_sheet s)) where
    to_room : if_room (leb (length (lean_sheet s)) (length b)) (lean_sheet s) b ≡ due
    to_room = λ i. if_erasable ((sym f ∙ e) i) (leb (length (lean_sheet s)) (length b)) (lean_sheet s) b

    pub no_room : length b < size → after_erasure (Err NoRoom) b ≡ due
    no_room h = (λ i. if_room (sym (lt-leb (length (lean_sheet s)) (length b) (omega arith)) i) (lean_sheet s) b) ∙ to_room

    pub all_written : size ≤ length b → {x : List ℕ} → x ≡ lean_sheet s ++ drop (length (lean_sheet s)) b → after_erasure (Ok size) x ≡ due
    all_written h p =
        (λ i. after_erasure (Ok (q i)) (p i)) ∙ (λ i. if_room (sym (le-leb (length (lean_sheet s)) (length b) (omega arith)) i) (lean_sheet s) b) ∙ to_room

-- ---- the numbers that it is written by
pub sheet_ready : {s : List ℕ} {c : Counts} {y : Numbers 256} {m : Numbers 1024} → FormedSheet s c → TypesNumbered s y → TermsNumbered s m → SheetReady s c y m
sheet_ready S Y M = record { sheet = S; types_numbered = Y; terms_numbered = M }
