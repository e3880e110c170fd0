-- 01's judge on the bytes of a sheet: the reader's refusals 1 to 8 and 31, then the rules' 9 to 12 and 24 to 26 at a term, then "13 type of the
-- root", which comes last.
use Rattle.std.specs.Prelude.{cond, List, [], ℕ, ltb}
use Rattle.program.specs.Layout.{authority, terms, root, types_of}
use Rattle.program.specs.Terms.{tree, program}
use Rattle.program.specs.Screening.{unless_found}
use Rattle.program.specs.Decoding.{decoding}
use Rattle.typing.specs.Rules.{Variant, current, Derives}
use Rattle.typing.specs.Checking.{Judgement, typed, fault, infer}

pub data Verdict : Type 0 where
  accepted : (terms type needs : ℕ) → Verdict
  rejected : (cause place : ℕ) → Verdict

-- "The root has type 0 or 1."
abbrev pub concluded : (terms root : ℕ) → Judgement → Verdict
concluded n r (typed τ N) = cond (ltb τ 2) (accepted n τ N) (rejected 13 r)
concluded n r (fault c at) = rejected c at

-- the judgement of term t in these bindings and under this principal
unfoldable pub term_judgement : List ℕ → (Γ : List ℕ) (n t : ℕ) → Judgement
term_judgement s Γ n t = infer (types_of s) (authority s) Γ n (tree s t)

-- The program is judged without bindings. It is a sign, so that the principal named here is never looked at.
abbrev pub judgement : List ℕ → Judgement
judgement s = infer (types_of s) (authority s) [] 0 (program s)

unfoldable pub verdict : List ℕ → Verdict
verdict s = unless_found rejected (decoding s) λ _. concluded (terms s) (root s) (judgement s)

-- a derivation of the sheet: of its program, without bindings; by the rules of a variant, and by those in force
abbrev pub SheetDerivesBy : Variant → List ℕ → (type needs : ℕ) → Type 0
SheetDerivesBy W s τ N = Derives W (types_of s) (authority s) [] 0 (program s) τ N

abbrev pub SheetDerives : List ℕ → (type needs : ℕ) → Type 0
SheetDerives s τ N = SheetDerivesBy current s τ N
