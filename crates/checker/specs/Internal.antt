-- What the contracts of internal functions say. No reader of the public promise needs this file.
use Rattle.std.specs.Prelude.{List, ◌≡◌, ℕ, ◌<◌, ◌≤◌, Result}
use Rattle.program.specs.Layout.{types_of}
use Rattle.program.specs.Records.{term_record}
use Rattle.program.specs.declared.records.Counts.{Counts}
use Rattle.program.specs.declared.records.TermRecord.{TermRecord}
use Rattle.typing.specs.declared.answer.Fault.{Fault}
use Rattle.typing.specs.declared.answer.Typed.{Typed}
use Rattle.subtyping.specs.Known.{Known, Answered}
use Rattle.typing.specs.Verdicts.{term_judgement}
use Rattle.rules.specs.Inference.{inferred_model, Ready}
use Rattle.rules.specs.declared.bindings.Bindings.{Bindings}

-- a term that can be judged, and what is known of the sheet's types
pub record ReadyTerm (s : List ℕ) (c : Counts) (l : List ℕ) (t : ℕ) (b : Bindings) (n : ℕ) : Type 0 where
  pub ready : Ready s c t b n
  pub known : Known (types_of s) l

-- and its record, which has been read
pub record ReadyAt (s : List ℕ) (c : Counts) (l : List ℕ) (t : ℕ) (b : Bindings) (n : ℕ) (x : TermRecord) : Type 0 where
  pub ready : Ready s c t b n
  pub known : Known (types_of s) l
  pub record_is : x ≡ term_record s c t

-- and its kind
pub record ReadyKind (s : List ℕ) (c : Counts) (l : List ℕ) (t : ℕ) (b : Bindings) (n : ℕ) (x : TermRecord) (k : ℕ) : Type 0 where
  pub at : ReadyAt s c l t b n x
  pub kind_is : x.kind ≡ k

-- a sum, a difference or a comparison
pub record ReadyBinary (s : List ℕ) (c : Counts) (l : List ℕ) (t : ℕ) (b : Bindings) (n : ℕ) (x : TermRecord) : Type 0 where
  pub at : ReadyAt s c l t b n x
  pub kind_least : 11 ≤ x.kind
  pub kind_most : x.kind < 14

-- a term's judgement, and what is known then
abbrev pub InferredAs : (s Γ : List ℕ) (n t : ℕ) → Result Typed Fault → (l : List ℕ) → Type 0
InferredAs s Γ n t r l = Answered (types_of s) (inferred_model r) (term_judgement s Γ n t) l
