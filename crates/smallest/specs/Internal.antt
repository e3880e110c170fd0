-- What the contracts of internal functions say. No reader of the public promise needs this file.
use Rattle.std.specs.Prelude.{Option as Maybe, Some, None, List, ◌≡◌, ℕ, ◌+◌, Result}
use Rattle.std.proofs.Math.Option.{Option, none, some}
use Rattle.program.specs.Layout.{authority, types_of}
use Rattle.program.specs.Terms.{size}
use Rattle.program.specs.declared.records.Counts.{Counts}
use Rattle.typing.specs.Places.{Placed, placed}
use Rattle.typing.specs.Checking.{Judgement}
use Rattle.typing.specs.Answers.{fault_cause, fault_place}
use Rattle.typing.specs.declared.answer.Fault.{Fault}
use Rattle.typing.specs.declared.answer.Typed.{Typed}
use Rattle.subtyping.specs.Known.{Known}
use Rattle.typing.specs.Verdicts.{term_judgement}
use Rattle.rules.specs.Inference.{inferred_model, context}
use Rattle.places.specs.Internal.{ReadyPlace, children_at, Child, ReadyChild}
use Rattle.places.specs.declared.Place.{Place}
use Rattle.subterms.specs.Smallest.{FaultyTerm, smaller, smallest_of, faulty_as}
use Rattle.subterms.specs.declared.answer.Faulty.{Faulty}
use Rattle.subterms.specs.Claims.{judgement_at}
use Rattle.subterms.proofs.Laws.Subterms.{subterms_in}
use Rattle.smallest.specs.declared.visit.Visited.{Visited}

-- ---- candidates
abbrev pub candidate_model : Maybe Faulty → Option FaultyTerm
candidate_model None = none
candidate_model (Some x) = some (record { term = x.term; count = x.count; cause = fault_cause x.fault; place = fault_place x.fault })

abbrev pub or_own : (below own : Option FaultyTerm) → Option FaultyTerm
or_own none own = own
or_own (some x) own = some x

-- ---- judgements
abbrev pub place_judgement : List ℕ → Place → Judgement
place_judgement s at = term_judgement s (context at.bindings) at.principal at.term

-- a judgement is that of a child, if there is one
abbrev pub Judges : List ℕ → Option Placed → Judgement → Type 0
Judges s none j = Unit {0}
Judges s (some x) j = j ≡ judgement_at (types_of s) (authority s) x

-- what judging a term from its children asks
pub record Judgeable (s : List ℕ) (c : Counts) (l : List ℕ) (at : Place) (i j k : Result Typed Fault) : Type 0 where
  pub ready : ReadyPlace s c at
  pub known : Known (types_of s) l
  pub first : Judges s (children_at s at).first (inferred_model i)
  pub second : Judges s (children_at s at).second (inferred_model j)
  pub third : Judges s (children_at s at).third (inferred_model k)

-- ---- visits
abbrev pub size_in : Option Placed → ℕ
size_in none = 0
size_in (some (placed Γ n c)) = size c

pub record Visitable (s : List ℕ) (c : Counts) (l : List ℕ) (y : Child) : Type 0 where
  pub ready : ReadyChild s c y
  pub known : Known (types_of s) l

-- what is found of a term where it stands, or of none, and what is known then
pub record VisitedAs (s : List ℕ) (o : Option Placed) (r : Visited) (l : List ℕ) : Type 0 where
  pub judged : Judges s o (inferred_model r.judged)
  pub count_is : r.count ≡ size_in o
  pub smallest_is : candidate_model r.smallest ≡ smallest_of (types_of s) (authority s) (subterms_in (types_of s) o)
  pub known : Known (types_of s) l

-- what is found of term t from its judgement and what is found of its children
pub record CombinedFrom (t : ℕ) (r : Result Typed Fault) (i j k x : Visited) : Type 0 where
  pub judged_is : x.judged ≡ r
  pub count_is : x.count ≡ 1 + i.count + j.count + k.count
  pub smallest_is : candidate_model x.smallest
      ≡ or_own (smaller (smaller (candidate_model i.smallest) (candidate_model j.smallest)) (candidate_model k.smallest))
      (faulty_as t (1 + i.count + j.count + k.count) (inferred_model r))
