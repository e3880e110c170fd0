-- What the contracts of internal functions say. No reader of the public promise needs this file.
use Rattle.std.specs.Prelude.{List, [], ◌≡◌, ℕ}
use Rattle.std.proofs.Math.Option.{Option, some}
use Rattle.program.specs.Layout.{authority, types_of}
use Rattle.program.specs.Terms.{program}
use Rattle.program.specs.declared.records.Counts.{Counts}
use Rattle.typing.specs.Places.{Placed}
use Rattle.places.specs.Internal.{placed_at, Child, child_at, ReadyChild}
use Rattle.places.specs.declared.Place.{Place}
use Rattle.subterms.specs.Smallest.{subterms}
use Rattle.subterms.specs.Judging.{with_number, JudgedTerm, judged_of}
use Rattle.subterms.proofs.Laws.Subterms.{subterms_in}

-- term t among those in a child, or none
pub record FoundAs (s : List ℕ) (c : Counts) (t : ℕ) (o : Option Placed) (r : Child) : Type 0 where
  pub is : child_at s r ≡ with_number t (subterms_in (types_of s) o)
  pub ready : ReadyChild s c r

-- what is told of the term at a place
abbrev pub judged_at : List ℕ → Place → JudgedTerm
judged_at s at = judged_of (types_of s) (authority s) (some (placed_at s at))

-- what is told of term t of a readable sheet
abbrev pub judged_in : List ℕ → (t : ℕ) → JudgedTerm
judged_in s t = judged_of (types_of s) (authority s) (with_number t (subterms (types_of s) [] 0 (program s)))
