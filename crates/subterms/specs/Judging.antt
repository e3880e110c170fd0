-- The judgement of one term of a sheet, "in the bindings and under the principal it has in the sheet", by 02's words in W13.
use Rattle.std.specs.Prelude.{cond, List, [], ◌∷◌, ℕ, eqb}
use Rattle.std.proofs.Math.Option.{Option, none, some}
use Rattle.program.specs.Layout.{Types, authority, types_of}
use Rattle.program.specs.Terms.{program}
use Rattle.program.specs.Screening.{unless_found}
use Rattle.program.specs.Decoding.{decoding}
use Rattle.typing.specs.Places.{Placed, placed, placed_number}
use Rattle.typing.specs.Checking.{Judgement, typed, fault, infer}
use Rattle.subterms.specs.Smallest.{subterms}

-- the term with this number, where it stands
unfoldable pub with_number : (t : ℕ) → List Placed → Option Placed
with_number t [] = none
with_number t (x ∷ l) = cond (eqb (placed_number x) t) (some x) (with_number t l)

-- The answer: the type and the least needs that the rules give the term there, and the principal that it stands under; or a refusal. The root stands under
-- none, and 0 is told.
pub data JudgedTerm : Type 0 where
  typed_under : (principal type needs : ℕ) → JudgedTerm
  refused : (cause place : ℕ) → JudgedTerm

abbrev pub judged_as : (principal : ℕ) → Judgement → JudgedTerm
judged_as n (typed τ N) = typed_under n τ N
judged_as n (fault cause at) = refused cause at

-- no such term: 37, a number of our own
abbrev pub judged_of : Types → (A : ℕ → ℕ) → Option Placed → JudgedTerm
judged_of T A none = refused 37 0
judged_of T A (some (placed Γ n c)) = judged_as n (infer T A Γ n c)

unfoldable pub judging : List ℕ → (t : ℕ) → JudgedTerm
judging s t = unless_found refused (decoding s) λ _. judged_of (types_of s) (authority s) (with_number t (subterms (types_of s) [] 0 (program s)))
