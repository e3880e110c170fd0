-- Erasure of sheets, from their bytes: the lean sheets, the refusals and the buffer after each, and the runs of a sheet and of its lean sheet. The tables are
-- proved by computation.
use Rattle.std.specs.Prelude.{List, [], ◌∷◌, ◌++◌, map, ◌≡◌, refl, ℕ, replicate}
use Rattle.privileges.specs.Sets.{has, meet, union, insert, remove, subset}
use Rattle.program.specs.Limits.{max_calls, max_depth}
use Rattle.program.specs.Screening.{refuse_at, screen}
use Rattle.program.specs.Decoding.{decoding}
use Rattle.typing.specs.Subtyping.{subtype_in, subtype, wider}
use Rattle.typing.specs.Rules.{remove_authorised}
use Rattle.typing.specs.Checking.{infer}
use Rattle.typing.specs.Verdicts.{accepted, verdict}
use Rattle.semantics.specs.Meaning.{eval_with, apply, eval}
use Rattle.semantics.specs.Access.{add_authorised}
use Rattle.semantics.specs.Runs.{Buffers, sizes, course, ended, stopped, ground_num, ran}
use Rattle.soundness.specs.Cases.{Case, deciding, due, request, counted, both, observed, observed_by, largest, as_due}
use Rattle.erasure.specs.Kept.{kept_below, gather}
use Rattle.erasure.specs.Lean.{representatives, representative, kept_type, new_types, new_type, kept_term, inner_in, inner, new_terms, new_term, lean_sheet, untested, erasable}
use Rattle.erasure.specs.Erasure.{ErasureAnswer, refused, lean, AfterErasure, erasure}

-- ---- the sheets, a line for each field's header and each record
-- 01's sheet of 78 bytes: sign 0 (enable 1 (check 1 (post 7))), with A(0) = {1} or another set, in a version, and what follows the terms
printed : (version authority : ℕ) → List ℕ → List ℕ
printed version authority behind =
    1 ∷ 0 ∷ 2 ∷ 0 ∷ version
    ∷ 2 ∷ 0 ∷ 4 ∷ 0 ∷ 0 ∷ 0 ∷ authority
    ∷ 3 ∷ 0 ∷ 20
    ∷ 0 ∷ 0 ∷ 0 ∷ 0 ∷ 0 ∷ 0 ∷ 0 ∷ 0 ∷ 0 ∷ 0
    ∷ 1 ∷ 0 ∷ 0 ∷ 0 ∷ 0 ∷ 0 ∷ 0 ∷ 0 ∷ 0 ∷ 0
    ∷ 4 ∷ 0 ∷ 40
    ∷ 1 ∷ 0 ∷ 0 ∷ 7 ∷ 0 ∷ 0 ∷ 0 ∷ 0
    ∷ 14 ∷ 0 ∷ 0 ∷ 0 ∷ 0 ∷ 0 ∷ 0 ∷ 0
    ∷ 7 ∷ 1 ∷ 0 ∷ 1 ∷ 0 ∷ 0 ∷ 0 ∷ 0
    ∷ 8 ∷ 1 ∷ 0 ∷ 2 ∷ 0 ∷ 0 ∷ 0 ∷ 0
    ∷ 9 ∷ 0 ∷ 0 ∷ 3 ∷ 0 ∷ 0 ∷ 0 ∷ 0 ∷ behind

-- its lean sheet: sign 0 (post 7)
printed_lean : List ℕ
printed_lean =
    1 ∷ 0 ∷ 2 ∷ 0 ∷ 1
    ∷ 2 ∷ 0 ∷ 4 ∷ 0 ∷ 0 ∷ 0 ∷ 2
    ∷ 3 ∷ 0 ∷ 20
    ∷ 0 ∷ 0 ∷ 0 ∷ 0 ∷ 0 ∷ 0 ∷ 0 ∷ 0 ∷ 0 ∷ 0
    ∷ 1 ∷ 0 ∷ 0 ∷ 0 ∷ 0 ∷ 0 ∷ 0 ∷ 0 ∷ 0 ∷ 0
    ∷ 4 ∷ 0 ∷ 24
    ∷ 1 ∷ 0 ∷ 0 ∷ 7 ∷ 0 ∷ 0 ∷ 0 ∷ 0
    ∷ 14 ∷ 0 ∷ 0 ∷ 0 ∷ 0 ∷ 0 ∷ 0 ∷ 0
    ∷ 9 ∷ 0 ∷ 0 ∷ 1 ∷ 0 ∷ 0 ∷ 0 ∷ 0 ∷ []

-- sign 0 (enable 1 (check 1 ((fun f. sign 0 (check 1 (f 5))) (fun x. sign 0 (check 1 (post x)))))). The types of f and x's functions stand there twice, first
-- with an empty latent set.
nested : List ℕ
nested =
    1 ∷ 0 ∷ 2 ∷ 0 ∷ 1
    ∷ 2 ∷ 0 ∷ 4 ∷ 0 ∷ 0 ∷ 0 ∷ 2
    ∷ 3 ∷ 0 ∷ 70
    ∷ 0 ∷ 0 ∷ 0 ∷ 0 ∷ 0 ∷ 0 ∷ 0 ∷ 0 ∷ 0 ∷ 0
    ∷ 1 ∷ 0 ∷ 0 ∷ 0 ∷ 0 ∷ 0 ∷ 0 ∷ 0 ∷ 0 ∷ 0
    ∷ 2 ∷ 0 ∷ 0 ∷ 1 ∷ 0 ∷ 1 ∷ 0 ∷ 0 ∷ 0 ∷ 0
    ∷ 2 ∷ 0 ∷ 0 ∷ 0 ∷ 0 ∷ 0 ∷ 0 ∷ 0 ∷ 0 ∷ 4
    ∷ 2 ∷ 0 ∷ 0 ∷ 1 ∷ 0 ∷ 1 ∷ 0 ∷ 0 ∷ 0 ∷ 2
    ∷ 2 ∷ 0 ∷ 0 ∷ 2 ∷ 0 ∷ 1 ∷ 0 ∷ 0 ∷ 0 ∷ 0
    ∷ 2 ∷ 0 ∷ 0 ∷ 4 ∷ 0 ∷ 1 ∷ 0 ∷ 0 ∷ 0 ∷ 2
    ∷ 4 ∷ 0 ∷ 120
    ∷ 2 ∷ 0 ∷ 0 ∷ 0 ∷ 0 ∷ 0 ∷ 0 ∷ 0
    ∷ 14 ∷ 0 ∷ 0 ∷ 0 ∷ 0 ∷ 0 ∷ 0 ∷ 0
    ∷ 7 ∷ 1 ∷ 0 ∷ 1 ∷ 0 ∷ 0 ∷ 0 ∷ 0
    ∷ 9 ∷ 0 ∷ 0 ∷ 2 ∷ 0 ∷ 0 ∷ 0 ∷ 0
    ∷ 3 ∷ 0 ∷ 0 ∷ 4 ∷ 0 ∷ 3 ∷ 0 ∷ 0
    ∷ 2 ∷ 0 ∷ 0 ∷ 0 ∷ 0 ∷ 0 ∷ 0 ∷ 0
    ∷ 1 ∷ 0 ∷ 0 ∷ 5 ∷ 0 ∷ 0 ∷ 0 ∷ 0
    ∷ 5 ∷ 0 ∷ 0 ∷ 5 ∷ 0 ∷ 6 ∷ 0 ∷ 0
    ∷ 7 ∷ 1 ∷ 0 ∷ 7 ∷ 0 ∷ 0 ∷ 0 ∷ 0
    ∷ 9 ∷ 0 ∷ 0 ∷ 8 ∷ 0 ∷ 0 ∷ 0 ∷ 0
    ∷ 3 ∷ 0 ∷ 0 ∷ 6 ∷ 0 ∷ 9 ∷ 0 ∷ 0
    ∷ 5 ∷ 0 ∷ 0 ∷ 10 ∷ 0 ∷ 4 ∷ 0 ∷ 0
    ∷ 7 ∷ 1 ∷ 0 ∷ 11 ∷ 0 ∷ 0 ∷ 0 ∷ 0
    ∷ 8 ∷ 1 ∷ 0 ∷ 12 ∷ 0 ∷ 0 ∷ 0 ∷ 0
    ∷ 9 ∷ 0 ∷ 0 ∷ 13 ∷ 0 ∷ 0 ∷ 0 ∷ 0 ∷ []

-- types 4 and 6 are merged into 2 and 5, of which the latter is now 4; type 3, which nothing uses, is kept
nested_lean : List ℕ
nested_lean =
    1 ∷ 0 ∷ 2 ∷ 0 ∷ 1
    ∷ 2 ∷ 0 ∷ 4 ∷ 0 ∷ 0 ∷ 0 ∷ 2
    ∷ 3 ∷ 0 ∷ 50
    ∷ 0 ∷ 0 ∷ 0 ∷ 0 ∷ 0 ∷ 0 ∷ 0 ∷ 0 ∷ 0 ∷ 0
    ∷ 1 ∷ 0 ∷ 0 ∷ 0 ∷ 0 ∷ 0 ∷ 0 ∷ 0 ∷ 0 ∷ 0
    ∷ 2 ∷ 0 ∷ 0 ∷ 1 ∷ 0 ∷ 1 ∷ 0 ∷ 0 ∷ 0 ∷ 0
    ∷ 2 ∷ 0 ∷ 0 ∷ 0 ∷ 0 ∷ 0 ∷ 0 ∷ 0 ∷ 0 ∷ 0
    ∷ 2 ∷ 0 ∷ 0 ∷ 2 ∷ 0 ∷ 1 ∷ 0 ∷ 0 ∷ 0 ∷ 0
    ∷ 4 ∷ 0 ∷ 88
    ∷ 2 ∷ 0 ∷ 0 ∷ 0 ∷ 0 ∷ 0 ∷ 0 ∷ 0
    ∷ 14 ∷ 0 ∷ 0 ∷ 0 ∷ 0 ∷ 0 ∷ 0 ∷ 0
    ∷ 9 ∷ 0 ∷ 0 ∷ 1 ∷ 0 ∷ 0 ∷ 0 ∷ 0
    ∷ 3 ∷ 0 ∷ 0 ∷ 2 ∷ 0 ∷ 2 ∷ 0 ∷ 0
    ∷ 2 ∷ 0 ∷ 0 ∷ 0 ∷ 0 ∷ 0 ∷ 0 ∷ 0
    ∷ 1 ∷ 0 ∷ 0 ∷ 5 ∷ 0 ∷ 0 ∷ 0 ∷ 0
    ∷ 5 ∷ 0 ∷ 0 ∷ 4 ∷ 0 ∷ 5 ∷ 0 ∷ 0
    ∷ 9 ∷ 0 ∷ 0 ∷ 6 ∷ 0 ∷ 0 ∷ 0 ∷ 0
    ∷ 3 ∷ 0 ∷ 0 ∷ 4 ∷ 0 ∷ 7 ∷ 0 ∷ 0
    ∷ 5 ∷ 0 ∷ 0 ∷ 8 ∷ 0 ∷ 3 ∷ 0 ∷ 0
    ∷ 9 ∷ 0 ∷ 0 ∷ 9 ∷ 0 ∷ 0 ∷ 0 ∷ 0 ∷ []

-- sign 0 (if 1 then 7 else (test 1 then 7 else 0)): a test that no run comes to
tested : List ℕ
tested =
    1 ∷ 0 ∷ 2 ∷ 0 ∷ 1
    ∷ 2 ∷ 0 ∷ 4 ∷ 0 ∷ 0 ∷ 0 ∷ 2
    ∷ 3 ∷ 0 ∷ 20
    ∷ 0 ∷ 0 ∷ 0 ∷ 0 ∷ 0 ∷ 0 ∷ 0 ∷ 0 ∷ 0 ∷ 0
    ∷ 1 ∷ 0 ∷ 0 ∷ 0 ∷ 0 ∷ 0 ∷ 0 ∷ 0 ∷ 0 ∷ 0
    ∷ 4 ∷ 0 ∷ 56
    ∷ 0 ∷ 1 ∷ 0 ∷ 0 ∷ 0 ∷ 0 ∷ 0 ∷ 0
    ∷ 1 ∷ 0 ∷ 0 ∷ 7 ∷ 0 ∷ 0 ∷ 0 ∷ 0
    ∷ 1 ∷ 0 ∷ 0 ∷ 7 ∷ 0 ∷ 0 ∷ 0 ∷ 0
    ∷ 1 ∷ 0 ∷ 0 ∷ 0 ∷ 0 ∷ 0 ∷ 0 ∷ 0
    ∷ 10 ∷ 1 ∷ 0 ∷ 2 ∷ 0 ∷ 3 ∷ 0 ∷ 0
    ∷ 6 ∷ 0 ∷ 0 ∷ 0 ∷ 0 ∷ 1 ∷ 0 ∷ 4
    ∷ 9 ∷ 0 ∷ 0 ∷ 5 ∷ 0 ∷ 0 ∷ 0 ∷ 0 ∷ []

-- tag 5 of version 2, without a guard
guards : List ℕ
guards = 5 ∷ 0 ∷ 16 ∷ replicate 16 255

-- ---- erasures
pub data Erasing : Type 0 where
  erasing : (sheet buffer : List ℕ) → ErasureAnswer → (after : List ℕ) → Erasing

abbrev pub due_of : Erasing → AfterErasure
due_of (erasing s b a after) = record { answer = a; buffer = after }

unfoldable pub erasure_of : Erasing → AfterErasure
erasure_of (erasing s b a after) = erasure s b

-- a buffer of so many bytes, none of them zero
abbrev filled : ℕ → List ℕ
filled n = replicate n 9

unfoldable pub erasures : List Erasing
unfolding printed printed_lean nested nested_lean tested guards
erasures =
    -- "The answer tells the new sheet's length, and bytes of the lent buffer after it are untouched."
    erasing (printed 1 2 []) (filled 64) (lean 62) (printed_lean ++ filled 2)
    ∷ erasing (printed 1 2 []) (filled 62) (lean 62) printed_lean
    ∷ erasing nested (filled 157) (lean 156) (nested_lean ++ filled 1)
    -- the lean sheet of a lean sheet is the sheet itself
    ∷ erasing nested_lean (filled 156) (lean 156) nested_lean
    -- "a buffer shorter than the new sheet 33"
    ∷ erasing (printed 1 2 []) (filled 61) (refused 33 0) (filled 61)
    ∷ erasing (printed 1 2 []) [] (refused 33 0) []
    -- "a test or version 2 is 32", before 33
    ∷ erasing tested (filled 100) (refused 32 0) (filled 100)
    ∷ erasing tested [] (refused 32 0) []
    ∷ erasing (printed 2 2 guards) (filled 100) (refused 32 0) (filled 100)
    -- "The judge's refusals come first"
    ∷ erasing (printed 1 0 []) (filled 100) (refused 11 4) (filled 100)
    ∷ erasing (printed 2 0 guards) [] (refused 11 4) []
    ∷ erasing [] [] (refused 1 0) [] ∷ []

pub erased_cases : map erasure_of erasures ≡ map due_of erasures
unfolding erasures erasure_of erasure lean_sheet representatives representative kept_type new_types new_type kept_term inner_in inner
    new_terms new_term untested
    erasable kept_below gather verdict decoding screen refuse_at infer subtype subtype_in wider remove_authorised has meet union insert remove subset
erased_cases = refl

-- ---- both sheets, judged and run: "accepted with type unchanged and no needs"; "a stop tells the old term's new number"
unfoldable pub both_sheets : List Case
unfolding printed printed_lean nested nested_lean
both_sheets =
    deciding (printed 1 2 []) (accepted 5 1 0)
    ∷ deciding printed_lean (accepted 3 1 0)
    ∷ both (printed 1 2 []) (request [] max_calls max_depth) (ran (ended (ground_num 7)) (counted 0 0 1)) (7 ∷ [])
    ++ both printed_lean (request [] max_calls max_depth) (ran (ended (ground_num 7)) (counted 0 0 1)) (7 ∷ [])
    ++ deciding nested (accepted 15 1 0)
    ∷ deciding nested_lean (accepted 11 1 0)
    ∷ both nested (request [] max_calls max_depth) (ran (ended (ground_num 5)) (counted 2 2 1)) (5 ∷ [])
    ++ both nested_lean (request [] max_calls max_depth) (ran (ended (ground_num 5)) (counted 2 2 1)) (5 ∷ [])
    -- the second call
    ++ both nested (request [] 1 max_depth) (ran (stopped 20 7) (counted 1 1 0)) []
    ++ both nested_lean (request [] 1 max_depth) (ran (stopped 20 6) (counted 1 1 0)) []
    ++ both nested (request [] max_calls 1) (ran (stopped 19 7) (counted 1 1 0)) []
    ++ both nested_lean (request [] max_calls 1) (ran (stopped 19 6) (counted 1 1 0)) []

computed : map (observed_by largest) both_sheets ≡ map due both_sheets
unfolding both_sheets observed_by verdict decoding screen refuse_at infer subtype subtype_in wider remove_authorised course eval apply eval_with add_authorised
    has meet union insert remove subset
computed = refl

-- with buffers of the largest lengths, whatever they hold
pub both_sheets_lem : (b : Buffers) → sizes b ≡ largest → map (observed b) both_sheets ≡ map due both_sheets
both_sheets_lem = as_due both_sheets computed
