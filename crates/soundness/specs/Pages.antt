-- Sheets of version 2, from their bytes: the guard's place among the refusals, in the needs and in a run. One theorem proves the table by computation, like
-- that of the starred cases.
use Rattle.std.specs.Prelude.{false, List, [], ◌∷◌, ◌++◌, map, ◌≡◌, refl, ℕ, replicate}
use Rattle.program.specs.Limits.{max_calls, max_depth}
use Rattle.privileges.specs.Sets.{has, meet, union, insert, remove, subset}
use Rattle.program.specs.Screening.{refuse_at, screen}
use Rattle.program.specs.Decoding.{decoding}
use Rattle.typing.specs.Subtyping.{subtype_in, subtype, wider}
use Rattle.typing.specs.Rules.{remove_authorised}
use Rattle.typing.specs.Checking.{infer}
use Rattle.typing.specs.Verdicts.{accepted, rejected, verdict}
use Rattle.semantics.specs.Meaning.{eval_with, apply, eval}
use Rattle.semantics.specs.Access.{add_authorised}
use Rattle.semantics.specs.Runs.{Runner, Request, Buffers, sizes, course, ended, stopped, ground_num, refused, ran}
use Rattle.soundness.specs.Cases.{Case, deciding, due, request, counted, both, observed, observed_by, largest, as_due}

-- ---- the sheets: A(0) = {1}, the types of the boolean and the number, and three terms, sign 0 (post …), of a version; what follows the terms is named
sheet : (version : ℕ) (inner page : List ℕ) (behind : List ℕ) → List ℕ
sheet version inner page behind =
    1 ∷ 0 ∷ 2 ∷ 0 ∷ version
    ∷ 2 ∷ 0 ∷ 4 ∷ 0 ∷ 0 ∷ 0 ∷ 2
    ∷ 3 ∷ 0 ∷ 20
    ∷ 0 ∷ 0 ∷ 0 ∷ 0 ∷ 0 ∷ 0 ∷ 0 ∷ 0 ∷ 0 ∷ 0
    ∷ 1 ∷ 0 ∷ 0 ∷ 0 ∷ 0 ∷ 0 ∷ 0 ∷ 0 ∷ 0 ∷ 0
    ∷ 4 ∷ 0 ∷ 24 ∷ inner ++ page
    ++ 9 ∷ 0 ∷ 0 ∷ 1 ∷ 0 ∷ 0 ∷ 0 ∷ 0 ∷ behind

-- term 0: the number 7, the boolean 1, an unbound variable
seven : List ℕ
seven = 1 ∷ 0 ∷ 0 ∷ 7 ∷ 0 ∷ 0 ∷ 0 ∷ 0 ∷ []

truth : List ℕ
truth = 0 ∷ 1 ∷ 0 ∷ 0 ∷ 0 ∷ 0 ∷ 0 ∷ 0 ∷ []

unbound : List ℕ
unbound = 2 ∷ 0 ∷ 0 ∷ 0 ∷ 0 ∷ 0 ∷ 0 ∷ 0 ∷ []

-- term 1: its post on a channel
on : (channel : ℕ) → List ℕ
on c = 14 ∷ c ∷ 0 ∷ 0 ∷ 0 ∷ 0 ∷ 0 ∷ 0 ∷ []

-- tag 5: the guard bytes of channels 3 and 9; all others have no guard
bytes : (three nine : ℕ) → List ℕ
bytes g h = 5 ∷ 0 ∷ 16 ∷ 255 ∷ 255 ∷ 255 ∷ g ∷ 255 ∷ 255 ∷ 255 ∷ 255 ∷ 255 ∷ h ∷ 255 ∷ 255 ∷ 255 ∷ 255 ∷ 255 ∷ 255 ∷ []

guards : (three : ℕ) → List ℕ
unfolding bytes
guards g = bytes g 255

-- a field in the place of tag 5, of a tag and a length, with so many bytes of content, none of them a guard
in_place : (tag length content : ℕ) → List ℕ
in_place t l n = t ∷ 0 ∷ l ∷ replicate n 255

-- ---- the table

-- on a stack, with checks in force or passed over
abbrev stacked : (start : List ℕ) → Runner → Request
stacked start = request start max_calls max_depth

abbrev skipping : Runner → Request
skipping r = record { runner = r; enforce = false; start = []; calls = max_calls; depth = max_depth }

unfoldable pub pages : List Case
unfolding sheet seven truth unbound on bytes guards in_place
pages =
    -- "A guarded post adds its privilege to the needs"; 3 × 65,536 + 7 is listed where the stack grants it
    deciding (sheet 2 seven (on 3) (guards 1)) (accepted 3 1 2)
    ∷ both (sheet 2 seven (on 3) (guards 1)) (stacked []) (ran (stopped 17 1) (counted 0 0 0)) []
    ++ both (sheet 2 seven (on 3) (guards 1)) (stacked (0 ∷ 2 ∷ [])) (ran (ended (ground_num 7)) (counted 0 0 1)) (196615 ∷ [])
    -- "A run with checks passed over passes over guards too"
    ++ both (sheet 2 seven (on 3) (guards 1)) skipping (ran (ended (ground_num 7)) (counted 0 0 1)) (196615 ∷ [])
    -- a channel without a guard, and channel 0
    ++ deciding (sheet 2 seven (on 2) (guards 1)) (accepted 3 1 0)
    ∷ both (sheet 2 seven (on 2) (guards 1)) (stacked []) (ran (ended (ground_num 7)) (counted 0 0 1)) (131079 ∷ [])
    ++ both (sheet 2 seven (on 0) (guards 1)) (stacked []) (ran (ended (ground_num 7)) (counted 0 0 1)) (7 ∷ [])
    -- "after 18"
    ++ both (sheet 2 truth (on 3) (guards 1)) (stacked []) (ran (stopped 18 1) (counted 0 0 0)) []
    -- the sign's author has no authority for the guard
    ++ deciding (sheet 2 seven (on 3) (guards 2)) (rejected 11 2)
    -- "any other privilege byte is 31 at its channel, straight after 8 and before all else": before 9, and before 14
    ∷ deciding (sheet 2 seven (on 3) (guards 31)) (rejected 11 2)
    ∷ deciding (sheet 2 seven (on 0) (guards 32)) (rejected 31 3)
    ∷ deciding (sheet 2 seven (on 0) (guards 254)) (rejected 31 3)
    ∷ deciding (sheet 2 seven (on 0) (bytes 32 200)) (rejected 31 3)
    ∷ deciding (sheet 2 seven (on 0) (bytes 0 200)) (rejected 31 9)
    ∷ deciding (sheet 2 unbound (on 0) (guards 255)) (rejected 9 0)
    ∷ deciding (sheet 2 unbound (on 0) (guards 32)) (rejected 31 3)
    ∷ both (sheet 2 unbound (on 0) (guards 32)) (stacked (9 ∷ [])) (refused 31 3) []
    -- "a channel, 0 to 15"; 6 before 31
    ++ deciding (sheet 2 seven (on 15) (guards 255)) (accepted 3 1 0)
    ∷ deciding (sheet 2 seven (on 16) (guards 32)) (rejected 6 1)
    -- version 1 has neither channel nor tag 5, version 2 is cut short without it, and there is no version 3
    ∷ deciding (sheet 1 seven (on 0) []) (accepted 3 1 0)
    ∷ both (sheet 1 seven (on 0) []) (stacked []) (ran (ended (ground_num 7)) (counted 0 0 1)) (7 ∷ [])
    ++ deciding (sheet 1 seven (on 1) []) (rejected 6 1)
    ∷ deciding (sheet 1 seven (on 0) (guards 1)) (rejected 2 0)
    ∷ deciding (sheet 2 seven (on 0) []) (rejected 1 0)
    ∷ deciding (sheet 3 seven (on 0) (guards 1)) (rejected 3 0)
    ∷ deciding (sheet 2 seven (on 0) (guards 1 ++ 0 ∷ [])) (rejected 2 0)
    -- "The tag, length and cutting refusals cover tag 5": another tag, other lengths, cut content; the tag before the length, and that before the content
    ∷ deciding (sheet 2 seven (on 0) (in_place 5 16 16)) (accepted 3 1 0)
    ∷ deciding (sheet 2 seven (on 0) (in_place 4 16 16)) (rejected 2 0)
    ∷ deciding (sheet 2 seven (on 0) (in_place 5 15 15)) (rejected 4 0)
    ∷ deciding (sheet 2 seven (on 0) (in_place 5 32 32)) (rejected 4 0)
    ∷ deciding (sheet 2 seven (on 0) (in_place 5 16 15)) (rejected 1 0)
    ∷ deciding (sheet 2 seven (on 0) (in_place 4 15 0)) (rejected 2 0)
    ∷ deciding (sheet 2 seven (on 0) (in_place 5 15 0)) (rejected 4 0) ∷ []

-- The rows hold of the definitions, with buffers of the largest lengths, whatever they hold.
pub guarded_pages : (b : Buffers) → sizes b ≡ largest → map (observed b) pages ≡ map due pages
unfolding pages observed_by verdict decoding screen refuse_at infer subtype subtype_in wider remove_authorised course eval apply eval_with add_authorised has
    meet union insert remove subset
guarded_pages = as_due pages refl
