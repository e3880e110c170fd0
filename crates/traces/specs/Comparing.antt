-- The unit's record held against the office's. 02, W12: "The answer is "fits" with the number missing if the unit's entries occur there in that order, and
-- otherwise the number, from 0, of the unit's first entry up to which they no longer can."
use Rattle.std.specs.Prelude.{Bool, true, false, not, cond, ◌&&◌, List, [], ◌∷◌, ℕ, suc, ◌-◌, eqb, length, take}
use Rattle.std.proofs.Math.Option.{Option, none, some}
use Rattle.program.specs.Tests.{also, or_else}
use Rattle.program.specs.Screening.{lowest}
use Rattle.traces.specs.Traces.{Event, well_formed_record, trace}

-- "occur there in that order": each of the unit's events stands in the office's list behind the one before it; others may stand between them
pub data Subsequence : (unit office : List Event) → Type 0 where
  nothing : {o : List Event} → Subsequence [] o
  here : {e : Event} {u o : List Event} → Subsequence u o → Subsequence (e ∷ u) (e ∷ o)
  later : {e : Event} {u o : List Event} → Subsequence u o → Subsequence u (e ∷ o)

abbrev pub same_decision : Bool → Bool → Bool
same_decision a b = cond a b (not b)

abbrev pub same_event : Event → Event → Bool
same_event a b = eqb a.term b.term && eqb a.privilege b.privilege && same_decision a.decided b.decided

-- The test of it, each way tried: the first event stands here and the others occur behind it, or all of them occur behind. Theorems.antt: it decides.
unfoldable pub occurs : (unit office : List Event) → Bool
occurs [] o = true
occurs (e ∷ u) [] = false
occurs (e ∷ u) (f ∷ o) = or_else (also (same_event e f) λ _. occurs u o) λ _. occurs (e ∷ u) o

pub data Comparison : Type 0 where
  refused : (cause place : ℕ) → Comparison
  fits : (missing : ℕ) → Comparison
  diverges : (entry : ℕ) → Comparison

abbrev pub comparison_of : (missing : ℕ) → Option ℕ → Comparison
comparison_of missing none = fits missing
comparison_of missing (some k) = diverges k

-- "the number, from 0, of the unit's first entry up to which they no longer can": the lowest k whose entries 0 to k do not occur
unfoldable pub compared : (unit office : List Event) → Comparison
compared u o = comparison_of (length o - length u) (lowest (λ k. occurs (take (suc k) u) o) 0 (length u))

abbrev pub if_both : Bool → (unit office : List ℕ) → Comparison
if_both true u o = compared (trace u) (trace o)
if_both false u o = refused 34 0

-- "Either record with a part of an entry or a yes-or-no byte above 1 is 34", at place 0, "as wherever a number has none named" (01)
unfoldable pub comparison : (unit office : List ℕ) → Comparison
comparison u o = if_both (well_formed_record u && well_formed_record o) u o
