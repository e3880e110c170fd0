-- Smallest faulty pieces by computation from the bytes of sheets, each beside the verdict, which tells the first fault, and judgements of single terms. A(0) =
-- {1}, A(1) is empty, and type 2 is a function from numbers to numbers whose latent set is empty.
use Rattle.std.specs.Prelude.{List, [], ◌∷◌, map, ◌≡◌, refl, ℕ, ◌*◌}
use Rattle.privileges.specs.Sets.{has, meet, union, insert, remove, subset}
use Rattle.program.specs.Screening.{refuse_at, screen}
use Rattle.program.specs.Decoding.{decoding}
use Rattle.typing.specs.Subtyping.{subtype_in, subtype, wider}
use Rattle.typing.specs.Rules.{remove_authorised}
use Rattle.typing.specs.Checking.{infer}
use Rattle.typing.specs.Verdicts.{Verdict, accepted, rejected, verdict}
use Rattle.subterms.specs.Smallest.{faulty_at, smallest_of, Piece, smallest, no_piece, unreadable, piece_of, record_of}
use Rattle.subterms.specs.Judging.{with_number, JudgedTerm, typed_under, refused, judging}

abbrev sheet : (terms : ℕ) (records : List ℕ) → List ℕ
sheet n records =
    1 ∷ 0 ∷ 2 ∷ 0 ∷ 1
    ∷ 2 ∷ 0 ∷ 8 ∷ 0 ∷ 0 ∷ 0 ∷ 2 ∷ 0 ∷ 0 ∷ 0 ∷ 0
    ∷ 3 ∷ 0 ∷ 30
    ∷ 0 ∷ 0 ∷ 0 ∷ 0 ∷ 0 ∷ 0 ∷ 0 ∷ 0 ∷ 0 ∷ 0
    ∷ 1 ∷ 0 ∷ 0 ∷ 0 ∷ 0 ∷ 0 ∷ 0 ∷ 0 ∷ 0 ∷ 0
    ∷ 2 ∷ 0 ∷ 0 ∷ 1 ∷ 0 ∷ 1 ∷ 0 ∷ 0 ∷ 0 ∷ 0
    ∷ 4 ∷ 0 ∷ 8 * n ∷ records

-- sign 0 ((if 1 then 2 else 3) + variable 5)
abbrev later : List ℕ
later = sheet 7 (
    1 ∷ 0 ∷ 0 ∷ 1 ∷ 0 ∷ 0 ∷ 0 ∷ 0
    ∷ 1 ∷ 0 ∷ 0 ∷ 2 ∷ 0 ∷ 0 ∷ 0 ∷ 0
    ∷ 1 ∷ 0 ∷ 0 ∷ 3 ∷ 0 ∷ 0 ∷ 0 ∷ 0
    ∷ 6 ∷ 0 ∷ 0 ∷ 0 ∷ 0 ∷ 1 ∷ 0 ∷ 2
    ∷ 2 ∷ 0 ∷ 0 ∷ 5 ∷ 0 ∷ 0 ∷ 0 ∷ 0
    ∷ 11 ∷ 0 ∷ 0 ∷ 3 ∷ 0 ∷ 4 ∷ 0 ∷ 0
    ∷ 9 ∷ 0 ∷ 0 ∷ 5 ∷ 0 ∷ 0 ∷ 0 ∷ 0 ∷ [])

-- sign 0 (variable 8 + variable 7), the second operand having the lower number
abbrev tied : List ℕ
tied = sheet 4 (
    2 ∷ 0 ∷ 0 ∷ 7 ∷ 0 ∷ 0 ∷ 0 ∷ 0
    ∷ 2 ∷ 0 ∷ 0 ∷ 8 ∷ 0 ∷ 0 ∷ 0 ∷ 0
    ∷ 11 ∷ 0 ∷ 0 ∷ 1 ∷ 0 ∷ 0 ∷ 0 ∷ 0
    ∷ 9 ∷ 0 ∷ 0 ∷ 2 ∷ 0 ∷ 0 ∷ 0 ∷ 0 ∷ [])

-- sign 0 (sign n (enable 1 (check 1 for 7)))
abbrev signed : (n : ℕ) → List ℕ
signed n = sheet 5 (
    1 ∷ 0 ∷ 0 ∷ 7 ∷ 0 ∷ 0 ∷ 0 ∷ 0
    ∷ 7 ∷ 1 ∷ 0 ∷ 0 ∷ 0 ∷ 0 ∷ 0 ∷ 0
    ∷ 8 ∷ 1 ∷ 0 ∷ 1 ∷ 0 ∷ 0 ∷ 0 ∷ 0
    ∷ 9 ∷ n ∷ 0 ∷ 2 ∷ 0 ∷ 0 ∷ 0 ∷ 0
    ∷ 9 ∷ 0 ∷ 0 ∷ 3 ∷ 0 ∷ 0 ∷ 0 ∷ 0 ∷ [])

-- sign 0 ((fun x. sign 0 (x + x 3)) 5): x is a number, by the type that the function declares
abbrev called : List ℕ
called = sheet 10 (
    2 ∷ 0 ∷ 0 ∷ 0 ∷ 0 ∷ 0 ∷ 0 ∷ 0
    ∷ 2 ∷ 0 ∷ 0 ∷ 0 ∷ 0 ∷ 0 ∷ 0 ∷ 0
    ∷ 1 ∷ 0 ∷ 0 ∷ 3 ∷ 0 ∷ 0 ∷ 0 ∷ 0
    ∷ 5 ∷ 0 ∷ 0 ∷ 1 ∷ 0 ∷ 2 ∷ 0 ∷ 0
    ∷ 11 ∷ 0 ∷ 0 ∷ 0 ∷ 0 ∷ 3 ∷ 0 ∷ 0
    ∷ 9 ∷ 0 ∷ 0 ∷ 4 ∷ 0 ∷ 0 ∷ 0 ∷ 0
    ∷ 3 ∷ 0 ∷ 0 ∷ 2 ∷ 0 ∷ 5 ∷ 0 ∷ 0
    ∷ 1 ∷ 0 ∷ 0 ∷ 5 ∷ 0 ∷ 0 ∷ 0 ∷ 0
    ∷ 5 ∷ 0 ∷ 0 ∷ 6 ∷ 0 ∷ 7 ∷ 0 ∷ 0
    ∷ 9 ∷ 0 ∷ 0 ∷ 8 ∷ 0 ∷ 0 ∷ 0 ∷ 0 ∷ [])

-- sign 0 (fun x. sign 0 x), and with a check of 1 for x
abbrev returned : List ℕ
returned = sheet 4 (
    2 ∷ 0 ∷ 0 ∷ 0 ∷ 0 ∷ 0 ∷ 0 ∷ 0
    ∷ 9 ∷ 0 ∷ 0 ∷ 0 ∷ 0 ∷ 0 ∷ 0 ∷ 0
    ∷ 3 ∷ 0 ∷ 0 ∷ 2 ∷ 0 ∷ 1 ∷ 0 ∷ 0
    ∷ 9 ∷ 0 ∷ 0 ∷ 2 ∷ 0 ∷ 0 ∷ 0 ∷ 0 ∷ [])

abbrev checked : List ℕ
checked = sheet 5 (
    2 ∷ 0 ∷ 0 ∷ 0 ∷ 0 ∷ 0 ∷ 0 ∷ 0
    ∷ 7 ∷ 1 ∷ 0 ∷ 0 ∷ 0 ∷ 0 ∷ 0 ∷ 0
    ∷ 9 ∷ 0 ∷ 0 ∷ 1 ∷ 0 ∷ 0 ∷ 0 ∷ 0
    ∷ 3 ∷ 0 ∷ 0 ∷ 2 ∷ 0 ∷ 2 ∷ 0 ∷ 0
    ∷ 9 ∷ 0 ∷ 0 ∷ 3 ∷ 0 ∷ 0 ∷ 0 ∷ 0 ∷ [])

-- a row: a sheet, its verdict, its smallest faulty piece, and that one's record
pub data Case : Type 0 where
  query : (sheet : List ℕ) → Verdict → Piece → (bytes : List ℕ) → Case

pub data Row : Type 0 where
  row : Verdict → Piece → (bytes : List ℕ) → Row

abbrev pub due : Case → Row
due (query s v p r) = row v p r

abbrev pub observed : Case → Row
observed (query s v p r) = row (verdict s) (piece_of s) (record_of s (piece_of s))

unfoldable pub cases : List Case
cases =
    -- the first fault is that of the if, in which there are four terms; the variable after it is the least to look at
    query later (rejected 10 3) (smallest 4 1 9 4) (2 ∷ 0 ∷ 0 ∷ 5 ∷ 0 ∷ 0 ∷ 0 ∷ 0 ∷ [])
    -- of two variables the one with the lower number, though it stands second
    ∷ query tied (rejected 9 1) (smallest 0 1 9 0) (2 ∷ 0 ∷ 0 ∷ 7 ∷ 0 ∷ 0 ∷ 0 ∷ 0 ∷ [])
    -- principal 1 may not enable what the root's principal may
    ∷ query (signed 1) (rejected 11 3) (smallest 3 4 11 3) (9 ∷ 1 ∷ 0 ∷ 2 ∷ 0 ∷ 0 ∷ 0 ∷ 0 ∷ [])
    ∷ query (signed 0) (accepted 5 1 0) no_piece []
    -- a call of a number
    ∷ query called (rejected 24 3) (smallest 3 3 24 3) (5 ∷ 0 ∷ 0 ∷ 1 ∷ 0 ∷ 2 ∷ 0 ∷ 0 ∷ [])
    -- a root of a function type has no piece, unless the function itself is refused
    ∷ query returned (rejected 13 3) no_piece []
    ∷ query checked (rejected 12 3) (smallest 3 4 12 3) (3 ∷ 0 ∷ 0 ∷ 2 ∷ 0 ∷ 2 ∷ 0 ∷ 0 ∷ [])
    -- a sheet that is not readable
    ∷ query [] (rejected 1 0) (unreadable 1 0) [] ∷ []

pub worked : map observed cases ≡ map due cases
unfolding cases piece_of smallest_of faulty_at verdict decoding screen refuse_at infer subtype subtype_in wider remove_authorised has meet
    union insert remove subset
worked = refl

-- a row: a sheet, a term's number, and what is told of it
pub data TermCase : Type 0 where
  of_term : (sheet : List ℕ) (t : ℕ) → JudgedTerm → TermCase

abbrev pub due_term : TermCase → JudgedTerm
due_term (of_term s t j) = j

abbrev pub observed_term : TermCase → JudgedTerm
observed_term (of_term s t j) = judging s t

unfoldable pub term_cases : List TermCase
term_cases =
    -- the check needs its privilege, and enable takes it away for principal 0
    of_term (signed 0) 1 (typed_under 0 1 2)
    ∷ of_term (signed 0) 2 (typed_under 0 1 0)
    -- the principal is that of the nearest sign above: 1 may not enable, and its sign is refused
    ∷ of_term (signed 1) 2 (typed_under 1 1 2)
    ∷ of_term (signed 1) 3 (refused 11 3)
    ∷ of_term (signed 1) 4 (refused 11 3)
    -- past the last term
    ∷ of_term (signed 0) 5 (refused 37 0)
    -- a variable has the type that is bound where it stands
    ∷ of_term called 0 (typed_under 0 1 0)
    ∷ of_term called 3 (refused 24 3)
    ∷ of_term called 7 (typed_under 0 1 0)
    ∷ of_term later 4 (refused 9 4)
    -- a root of a function type has one, and 13 is no judgement of a term
    ∷ of_term returned 3 (typed_under 0 2 0)
    -- a sheet that is not readable
    ∷ of_term [] 0 (refused 1 0) ∷ []

pub terms_worked : map observed_term term_cases ≡ map due_term term_cases
unfolding term_cases judging with_number decoding screen refuse_at infer subtype subtype_in wider remove_authorised has meet union insert remove subset
terms_worked = refl
