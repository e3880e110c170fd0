-- Sheets with other numbers, from their bytes: the bytes that are replaced, the run over ranges of the sheet, and the plain run of the sheet with the numbers
-- chosen, in one table that one theorem proves by computation.
use Rattle.std.specs.Prelude.{true, List, [], ◌∷◌, ◌++◌, map, ◌≡◌, refl, ℕ, length, get_or}
use Rattle.privileges.specs.Sets.{has, meet, union, insert}
use Rattle.program.specs.Bytes.{with_word16}
use Rattle.program.specs.Limits.{max_calls, max_depth}
use Rattle.program.specs.Screening.{refuse_at, screen}
use Rattle.semantics.specs.Meaning.{eval_with, apply, eval}
use Rattle.semantics.specs.Access.{add_authorised}
use Rattle.semantics.specs.Runs.{eager, Request, Buffers, ground_num, ended, OutcomeOf, Outcome, refused, ran, AfterOf, After, course, run}
use Rattle.intervals.specs.Intervals.{interval, intervals}
use Rattle.intervals.specs.Runs.{interval_course, interval_run}
use Rattle.intervals.specs.Choosing.{with_numbers_below, with_numbers}

-- ---- the sheets: one principal with A(0) = {1}, the boolean, the number and a function of numbers; and records of terms
sheet : (version : ℕ) (terms rest : List ℕ) → List ℕ
sheet v ts rest =
    1 ∷ 0 ∷ 2 ∷ 0 ∷ v
    ∷ 2 ∷ 0 ∷ 4 ∷ 0 ∷ 0 ∷ 0 ∷ 2
    ∷ 3 ∷ 0 ∷ 30
    ∷ 0 ∷ 0 ∷ 0 ∷ 0 ∷ 0 ∷ 0 ∷ 0 ∷ 0 ∷ 0 ∷ 0
    ∷ 1 ∷ 0 ∷ 0 ∷ 0 ∷ 0 ∷ 0 ∷ 0 ∷ 0 ∷ 0 ∷ 0
    ∷ 2 ∷ 0 ∷ 0 ∷ 1 ∷ 0 ∷ 1 ∷ 0 ∷ 0 ∷ 0 ∷ 0
    ∷ 4 ∷ 0 ∷ length ts ∷ ts ++ rest

-- sign 0 (post (m + n)); the numbers are given by their bytes
summed : (m n : List ℕ) → List ℕ
unfolding sheet
summed m n =
    sheet 1
    (1 ∷ 0 ∷ m ++ 0 ∷ 0 ∷ 0 ∷ 0
    ∷ 1 ∷ 0 ∷ n ++ 0 ∷ 0 ∷ 0 ∷ 0
    ∷ 11 ∷ 0 ∷ 0 ∷ 0 ∷ 0 ∷ 1 ∷ 0 ∷ 0
    ∷ 14 ∷ 0 ∷ 0 ∷ 2 ∷ 0 ∷ 0 ∷ 0 ∷ 0
    ∷ 9 ∷ 0 ∷ 0 ∷ 3 ∷ 0 ∷ 0 ∷ 0 ∷ 0 ∷ []) []

-- sign 0 ((fun x. sign 0 (x - m)) n)
called : (m n : List ℕ) → List ℕ
unfolding sheet
called m n =
    sheet 1
    (2 ∷ 0 ∷ 0 ∷ 0 ∷ 0 ∷ 0 ∷ 0 ∷ 0
    ∷ 1 ∷ 0 ∷ m ++ 0 ∷ 0 ∷ 0 ∷ 0
    ∷ 12 ∷ 0 ∷ 0 ∷ 0 ∷ 0 ∷ 1 ∷ 0 ∷ 0
    ∷ 9 ∷ 0 ∷ 0 ∷ 2 ∷ 0 ∷ 0 ∷ 0 ∷ 0
    ∷ 3 ∷ 0 ∷ 0 ∷ 2 ∷ 0 ∷ 3 ∷ 0 ∷ 0
    ∷ 1 ∷ 0 ∷ n ++ 0 ∷ 0 ∷ 0 ∷ 0
    ∷ 5 ∷ 0 ∷ 0 ∷ 4 ∷ 0 ∷ 5 ∷ 0 ∷ 0
    ∷ 9 ∷ 0 ∷ 0 ∷ 6 ∷ 0 ∷ 0 ∷ 0 ∷ 0 ∷ []) []

-- in version 2, sign 0 (post on channel 3 of n), whose guards stand behind the terms
guarded : (n : List ℕ) → List ℕ
unfolding sheet
guarded n =
    sheet 2
    (1 ∷ 0 ∷ n ++ 0 ∷ 0 ∷ 0 ∷ 0
    ∷ 14 ∷ 3 ∷ 0 ∷ 0 ∷ 0 ∷ 0 ∷ 0 ∷ 0
    ∷ 9 ∷ 0 ∷ 0 ∷ 1 ∷ 0 ∷ 0 ∷ 0 ∷ 0 ∷ [])
    (5 ∷ 0 ∷ 16 ∷ 255 ∷ 255 ∷ 255 ∷ 255 ∷ 255 ∷ 255 ∷ 255 ∷ 255 ∷ 255 ∷ 255 ∷ 255 ∷ 255 ∷ 255 ∷ 255 ∷ 255 ∷ 255 ∷ [])

-- ---- the table
pub record Observed : Type 0 where
  pub bytes : List ℕ
  pub over_intervals : AfterOf intervals
  pub plainly : After

-- a number for each term, in order; those of terms that are no numbers are not looked at
pub record Case : Type 0 where
  pub sheet : List ℕ
  pub pairs : List ℕ
  pub numbers : List ℕ
  pub due : Observed

-- one cell, two places for posts
abbrev filled : Buffers
filled = record { cells = 9 ∷ 9 ∷ 9 ∷ 9 ∷ 9 ∷ 9 ∷ 9 ∷ 9 ∷ []; posts = 8 ∷ 8 ∷ []; frames = 7 ∷ [] }

abbrev left : (posts : List ℕ) → Buffers
left ps = record { cells = 0 ∷ 0 ∷ 0 ∷ 0 ∷ 0 ∷ 0 ∷ 0 ∷ 0 ∷ []; posts = ps; frames = 7 ∷ [] }

abbrev plain_request : Request
plain_request = record { runner = eager; enforce = true; start = []; calls = max_calls; depth = max_depth }

abbrev interval_after : OutcomeOf intervals → (calls cells posts : ℕ) (list : List ℕ) → AfterOf intervals
interval_after o c d p l = record { answer = ran o (record { calls = c; cells = d; posts = p; saturated = 0 }); buffers = left l }

abbrev plainly : Outcome → (calls cells posts : ℕ) (list : List ℕ) → After
plainly o c d p l = record { answer = ran o (record { calls = c; cells = d; posts = p; saturated = 0 }); buffers = left l }

abbrev entry : (sheet pairs numbers bytes : List ℕ) → AfterOf intervals → After → Case
entry s ps ns bytes over plain = record { sheet = s; pairs = ps; numbers = ns; due = record { bytes = bytes; over_intervals = over; plainly = plain } }

unfoldable pub cases : List Case
unfolding summed called guarded
cases =
    -- "all numbers have their highest byte first"
    entry (summed (0 ∷ 5 ∷ []) (1 ∷ 44 ∷ [])) (1000 ∷ 1100 ∷ 500 ∷ 600 ∷ []) (1027 ∷ 515 ∷ []) (summed (4 ∷ 3 ∷ []) (2 ∷ 3 ∷ []))
    (interval_after (ended (ground_num (interval 1500 1700))) 0 0 1 (98305700 ∷ 8 ∷ [])) (plainly (ended (ground_num 1542)) 0 0 1 (1542 ∷ 8 ∷ []))
    -- the parts of other terms are kept, those of a variable too
    ∷ entry (called (0 ∷ 5 ∷ []) (1 ∷ 44 ∷ [])) (200 ∷ 300 ∷ 65000 ∷ 65535 ∷ []) (9 ∷ 256 ∷ 9 ∷ 9 ∷ 9 ∷ 65535 ∷ 9 ∷ 9 ∷ [])
    (called (1 ∷ 0 ∷ []) (255 ∷ 255 ∷ [])) (interval_after (ended (ground_num (interval 64700 65335))) 1 1 0 (8 ∷ 8 ∷ []))
    (plainly (ended (ground_num 65279)) 1 1 0 (8 ∷ 8 ∷ []))
    -- version 2 has no run over ranges, but numbers that may be others
    ∷ entry (guarded (0 ∷ 7 ∷ [])) (500 ∷ 600 ∷ []) (513 ∷ []) (guarded (2 ∷ 1 ∷ [])) (record { answer = refused 35 0; buffers = filled })
    (plainly (ended (ground_num 513)) 0 0 1 (197121 ∷ 8 ∷ []))
    -- bytes that are no sheet
    ∷ entry (1 ∷ 0 ∷ []) [] (513 ∷ []) (1 ∷ 0 ∷ []) (record { answer = refused 1 0; buffers = filled }) (record { answer = refused 1 0; buffers = filled })
    ∷ []

abbrev pub observe : Case → Observed
observe c =
    let new = with_numbers (λ t. get_or c.numbers t 0) c.sheet in
    record { bytes = new; over_intervals = interval_run c.sheet c.pairs plain_request filled; plainly = run new plain_request filled }

pub computed : map observe cases ≡ map (λ c. c.due) cases
unfolding cases with_numbers with_numbers_below with_word16 interval_run interval_course run course screen refuse_at eval apply eval_with add_authorised
    has meet union insert
computed = refl
