-- Sheets that run with a record, from their bytes: entries, a full record, a part of an entry, and a run that is turned back. One theorem proves the table by
-- computation, like that of the starred cases.
use Rattle.std.specs.Prelude.{Bool, true, false, List, [], ◌∷◌, ◌++◌, map, ◌≡◌, refl, ℕ, length, replicate}
use Rattle.std.proofs.Common.{ap, ◌∙◌}
use Rattle.program.specs.Limits.{max_calls, max_depth}
use Rattle.privileges.specs.Sets.{has, meet, union, insert}
use Rattle.program.specs.Layout.{root}
use Rattle.program.specs.Screening.{refuse_at, screen}
use Rattle.traces.specs.Traces.{Event, trace_bytes, recorded}
use Rattle.semantics.specs.Meaning.{eval_with, apply, eval}
use Rattle.semantics.specs.Access.{add_authorised}
use Rattle.semantics.specs.Runs.{eager, lazy, Request, Buffers, Sizes, sizes, course, ended, stopped, ground_num, Answer, refused, ran, answer_of, run}
use Rattle.semantics.specs.Recording.{traced_course, decisions, with_entries, recording}
use Rattle.soundness.specs.Cases.{counted, largest}

-- sign 0 (test 1 then check 1 (post on channel 3, which 1 guards, 7) else 8), with A(0) = {1}
sheet : List ℕ
sheet =
    1 ∷ 0 ∷ 2 ∷ 0 ∷ 2
    ∷ 2 ∷ 0 ∷ 4 ∷ 0 ∷ 0 ∷ 0 ∷ 2
    ∷ 3 ∷ 0 ∷ 20
    ∷ 0 ∷ 0 ∷ 0 ∷ 0 ∷ 0 ∷ 0 ∷ 0 ∷ 0 ∷ 0 ∷ 0
    ∷ 1 ∷ 0 ∷ 0 ∷ 0 ∷ 0 ∷ 0 ∷ 0 ∷ 0 ∷ 0 ∷ 0
    ∷ 4 ∷ 0 ∷ 48
    ∷ 1 ∷ 0 ∷ 0 ∷ 7 ∷ 0 ∷ 0 ∷ 0 ∷ 0
    ∷ 14 ∷ 3 ∷ 0 ∷ 0 ∷ 0 ∷ 0 ∷ 0 ∷ 0
    ∷ 7 ∷ 1 ∷ 0 ∷ 1 ∷ 0 ∷ 0 ∷ 0 ∷ 0
    ∷ 1 ∷ 0 ∷ 0 ∷ 8 ∷ 0 ∷ 0 ∷ 0 ∷ 0
    ∷ 10 ∷ 1 ∷ 0 ∷ 2 ∷ 0 ∷ 3 ∷ 0 ∷ 0
    ∷ 9 ∷ 0 ∷ 0 ∷ 4 ∷ 0 ∷ 0 ∷ 0 ∷ 0
    ∷ 5 ∷ 0 ∷ 16 ∷ 255 ∷ 255 ∷ 255 ∷ 1 ∷ 255 ∷ 255 ∷ 255 ∷ 255 ∷ 255 ∷ 255 ∷ 255 ∷ 255 ∷ 255 ∷ 255 ∷ 255 ∷ 255 ∷ []

-- sign 0 (check 1 for 7)
checked : List ℕ
checked =
    1 ∷ 0 ∷ 2 ∷ 0 ∷ 1
    ∷ 2 ∷ 0 ∷ 4 ∷ 0 ∷ 0 ∷ 0 ∷ 2
    ∷ 3 ∷ 0 ∷ 20
    ∷ 0 ∷ 0 ∷ 0 ∷ 0 ∷ 0 ∷ 0 ∷ 0 ∷ 0 ∷ 0 ∷ 0
    ∷ 1 ∷ 0 ∷ 0 ∷ 0 ∷ 0 ∷ 0 ∷ 0 ∷ 0 ∷ 0 ∷ 0
    ∷ 4 ∷ 0 ∷ 24
    ∷ 1 ∷ 0 ∷ 0 ∷ 7 ∷ 0 ∷ 0 ∷ 0 ∷ 0
    ∷ 7 ∷ 1 ∷ 0 ∷ 0 ∷ 0 ∷ 0 ∷ 0 ∷ 0
    ∷ 9 ∷ 0 ∷ 0 ∷ 1 ∷ 0 ∷ 0 ∷ 0 ∷ 0 ∷ []

-- ---- the table

-- a row: a sheet, a request and a lent record; the answer, the number of entries, and the record afterwards
pub data Case : Type 0 where
  recording_of : (sheet : List ℕ) → Request → (noted : List ℕ) → Answer → (entries : ℕ) (after : List ℕ) → Case

pub data Observed : Type 0 where
  observing : Answer → (entries : ℕ) (after : List ℕ) → Observed

abbrev pub due : Case → Observed
due (recording_of s q t a n l) = observing a n l

-- a record of so many bytes, each of them 9
abbrev filled : ℕ → List ℕ
filled n = replicate n 9

abbrev both : List ℕ → (enforce : Bool) (start : List ℕ) (record-length : ℕ) → Answer → (entries : ℕ) (after : List ℕ) → List Case
both s enforce start k a n l =
    recording_of s (record { runner = eager; enforce = enforce; start = start; calls = max_calls; depth = max_depth }) (filled k) a n l
    ∷ recording_of s (record { runner = lazy; enforce = enforce; start = start; calls = max_calls; depth = max_depth }) (filled k) a n l ∷ []

abbrev posted : Answer
posted = ran (ended (ground_num 7)) (counted 0 0 1)

abbrev giving : ℕ → Answer
giving n = ran (ended (ground_num n)) (counted 0 0 0)

unfoldable pub cases : List Case
unfolding sheet checked
cases =
    -- test, check and guard "in the order met"; "bytes past the last entry are untouched"
    both sheet true (0 ∷ 2 ∷ []) 14 posted 3 (0 ∷ 4 ∷ 1 ∷ 1 ∷ 0 ∷ 2 ∷ 1 ∷ 1 ∷ 0 ∷ 1 ∷ 1 ∷ 1 ∷ 9 ∷ 9 ∷ [])
    ++ both sheet true (0 ∷ 2 ∷ []) 12 posted 3 (0 ∷ 4 ∷ 1 ∷ 1 ∷ 0 ∷ 2 ∷ 1 ∷ 1 ∷ 0 ∷ 1 ∷ 1 ∷ 1 ∷ [])
    -- "a full record takes no more, and the run goes on"; nor does it hold a part of an entry
    ++ both sheet true (0 ∷ 2 ∷ []) 11 posted 2 (0 ∷ 4 ∷ 1 ∷ 1 ∷ 0 ∷ 2 ∷ 1 ∷ 1 ∷ 9 ∷ 9 ∷ 9 ∷ [])
    ++ both sheet true (0 ∷ 2 ∷ []) 4 posted 1 (0 ∷ 4 ∷ 1 ∷ 1 ∷ [])
    ++ both sheet true (0 ∷ 2 ∷ []) 3 posted 0 (9 ∷ 9 ∷ 9 ∷ [])
    ++ both sheet true (0 ∷ 2 ∷ []) 0 posted 0 []
    -- a test that says no; and with checks passed over, the test alone
    ++ both sheet true [] 8 (giving 8) 1 (0 ∷ 4 ∷ 1 ∷ 0 ∷ 9 ∷ 9 ∷ 9 ∷ 9 ∷ [])
    ++ both sheet false (0 ∷ 2 ∷ []) 8 posted 1 (0 ∷ 4 ∷ 1 ∷ 1 ∷ 9 ∷ 9 ∷ 9 ∷ 9 ∷ [])
    -- a check that is refused, granted, and passed over
    ++ both checked true [] 5 (ran (stopped 17 1) (counted 0 0 0)) 1 (0 ∷ 1 ∷ 1 ∷ 0 ∷ 9 ∷ [])
    ++ both checked true (0 ∷ 2 ∷ []) 5 (giving 7) 1 (0 ∷ 1 ∷ 1 ∷ 1 ∷ 9 ∷ [])
    ++ both checked false [] 5 (giving 7) 0 (9 ∷ 9 ∷ 9 ∷ 9 ∷ 9 ∷ [])
    -- a run that is turned back leaves the record: half a frame
    ++ both checked true (0 ∷ []) 5 (refused 14 0) 0 (9 ∷ 9 ∷ 9 ∷ 9 ∷ 9 ∷ [])

-- ---- what the definitions tell, in whatever buffers
abbrev pub observed : Buffers → Case → Observed
observed b (recording_of s q t a n l) = observing (recording s q b t).after.answer (recording s q b t).entries (recording s q b t).noted

-- the same from the buffers' lengths alone
abbrev kept_by : Sizes → List ℕ → Request → List ℕ → List Event
kept_by z s q t = recorded (length t) (decisions s q z)

unfoldable pub observed_by : Sizes → Case → Observed
observed_by z (recording_of s q t a n l) =
    observing (answer_of (root s) q z (course s q z)) (length (kept_by z s q t)) (with_entries (kept_by z s q t) t)

observations : (b : Buffers) (cs : List Case) → map (observed b) cs ≡ map (observed_by (sizes b)) cs
unfolding observed_by recording run
observations b [] = refl
observations b (recording_of s q t a n l ∷ cs) = λ i. observed_by (sizes b) (recording_of s q t a n l) ∷ observations b cs i

computed : map (observed_by largest) cases ≡ map due cases
unfolding cases observed_by screen refuse_at traced_course course eval apply eval_with add_authorised has meet union insert trace_bytes
computed = refl

-- The rows hold of the definitions, with buffers of the largest lengths, whatever they hold.
pub recorded_sheets : (b : Buffers) → sizes b ≡ largest → map (observed b) cases ≡ map due cases
recorded_sheets b e = observations b cases ∙ ap (λ (z : Sizes). map (observed_by z) cases) e ∙ computed
