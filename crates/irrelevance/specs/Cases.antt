-- A privilege that plays a part and one that plays none, on sheets from their bytes: what is told of each, and runs from two starts. The tables are proved by
-- computation.
use Rattle.std.specs.Prelude.{List, [], ◌∷◌, ◌++◌, map, ◌≡◌, refl, ℕ}
use Rattle.privileges.specs.Sets.{has, meet, union, insert}
use Rattle.program.specs.Limits.{max_calls, max_depth}
use Rattle.program.specs.Screening.{refuse_at, screen}
use Rattle.semantics.specs.Names.{names}
use Rattle.semantics.specs.Meaning.{eval_with, apply, eval}
use Rattle.semantics.specs.Access.{add_authorised}
use Rattle.semantics.specs.Runs.{Answer, Buffers, sizes, course, ended, stopped, ground_num, ran}
use Rattle.soundness.specs.Cases.{Case, due, request, counted, both, observed, observed_by, largest, as_due}
use Rattle.irrelevance.specs.Naming.{Naming, refused, unnamed, named, naming}

-- ---- the sheets: A(0) = {1, 2}, and sign 0 ((enable 1 for 0) + (test p then (post 7 on channel 3) else 0)), with the guards of channels 3 and 9. The kind
-- of the enable is 8, and may be another.
sheet : (kind tested three nine : ℕ) → List ℕ
sheet k p g h =
    1 ∷ 0 ∷ 2 ∷ 0 ∷ 2
    ∷ 2 ∷ 0 ∷ 4 ∷ 0 ∷ 0 ∷ 0 ∷ 6
    ∷ 3 ∷ 0 ∷ 20
    ∷ 0 ∷ 0 ∷ 0 ∷ 0 ∷ 0 ∷ 0 ∷ 0 ∷ 0 ∷ 0 ∷ 0
    ∷ 1 ∷ 0 ∷ 0 ∷ 0 ∷ 0 ∷ 0 ∷ 0 ∷ 0 ∷ 0 ∷ 0
    ∷ 4 ∷ 0 ∷ 64
    ∷ 1 ∷ 0 ∷ 0 ∷ 0 ∷ 0 ∷ 0 ∷ 0 ∷ 0
    ∷ k ∷ 1 ∷ 0 ∷ 0 ∷ 0 ∷ 0 ∷ 0 ∷ 0
    ∷ 1 ∷ 0 ∷ 0 ∷ 7 ∷ 0 ∷ 0 ∷ 0 ∷ 0
    ∷ 14 ∷ 3 ∷ 0 ∷ 2 ∷ 0 ∷ 0 ∷ 0 ∷ 0
    ∷ 1 ∷ 0 ∷ 0 ∷ 0 ∷ 0 ∷ 0 ∷ 0 ∷ 0
    ∷ 10 ∷ p ∷ 0 ∷ 3 ∷ 0 ∷ 4 ∷ 0 ∷ 0
    ∷ 11 ∷ 0 ∷ 0 ∷ 1 ∷ 0 ∷ 5 ∷ 0 ∷ 0
    ∷ 9 ∷ 0 ∷ 0 ∷ 6 ∷ 0 ∷ 0 ∷ 0 ∷ 0
    ∷ 5 ∷ 0 ∷ 16
    ∷ 255 ∷ 255 ∷ 255 ∷ g ∷ 255 ∷ 255 ∷ 255 ∷ 255 ∷ 255 ∷ h ∷ 255 ∷ 255 ∷ 255 ∷ 255 ∷ 255 ∷ 255 ∷ []

-- it tests 2, and only channel 9, on which nothing is posted, is guarded by 1: though it enables 1, it does not name it
without : List ℕ
unfolding sheet
without = sheet 8 2 255 1

-- ---- what is told
pub data Query : Type 0 where
  query : (sheet : List ℕ) (p : ℕ) → Naming → Query

abbrev pub due_of : Query → Naming
due_of (query s p a) = a

unfoldable pub answered_by : Query → Naming
answered_by (query s p a) = naming s p

unfoldable pub queries : List Query
unfolding sheet without
queries =
    query without 1 unnamed
    ∷ query without 0 unnamed
    ∷ query without 31 unnamed
    -- by the test
    ∷ query without 2 (named 5)
    ∷ query (sheet 8 1 255 255) 1 (named 5)
    -- by a check
    ∷ query (sheet 7 2 255 255) 1 (named 1)
    -- by the guard, and by both: the lowest is told
    ∷ query (sheet 8 2 1 255) 1 (named 3)
    ∷ query (sheet 8 1 1 255) 1 (named 3)
    -- "a privilege above 31 is 30" (W7), after the sheet's own refusals
    ∷ query without 32 (refused 30 0)
    ∷ query (sheet 8 2 32 255) 32 (refused 31 3)
    ∷ query [] 32 (refused 1 0) ∷ []

pub query_cases : map answered_by queries ≡ map due_of queries
unfolding queries answered_by naming names screen refuse_at
query_cases = refl

-- ---- runs from two starts
-- frames of principal 0: nothing, {1}, {2}, {1, 2}
abbrev nothing : List ℕ
nothing = []

abbrev only_one : List ℕ
only_one = 0 ∷ 2 ∷ []

abbrev only_two : List ℕ
only_two = 0 ∷ 4 ∷ []

abbrev both_of_them : List ℕ
both_of_them = 0 ∷ 6 ∷ []

abbrev zero_end : Answer
zero_end = ran (ended (ground_num 0)) (counted 0 0 0)

abbrev posted : Answer
posted = ran (ended (ground_num 7)) (counted 0 0 1)

abbrev from : (sheet start : List ℕ) → Answer → (posts : List ℕ) → List Case
from s start a posts = both s (request start max_calls max_depth) a posts

unfoldable pub runs : List Case
unfolding sheet without
runs =
    -- it does not name 1, and whether 1 is granted is of no account
    from without nothing zero_end []
    ++ from without only_one zero_end []
    ++ from without only_two posted (196615 ∷ [])
    ++ from without both_of_them posted (196615 ∷ [])
    -- a check of 1 in the enable's place
    ++ from (sheet 7 2 255 255) only_two (ran (stopped 17 1) (counted 0 0 0)) []
    ++ from (sheet 7 2 255 255) both_of_them posted (196615 ∷ [])
    -- a test of 1
    ++ from (sheet 8 1 255 255) only_two zero_end []
    ++ from (sheet 8 1 255 255) both_of_them posted (196615 ∷ [])
    -- a post that 1 guards
    ++ from (sheet 8 2 1 255) only_two (ran (stopped 17 3) (counted 0 0 0)) []
    ++ from (sheet 8 2 1 255) both_of_them posted (196615 ∷ [])

computed : map (observed_by largest) runs ≡ map due runs
unfolding runs observed_by screen refuse_at course eval apply eval_with add_authorised has meet union insert
computed = refl

-- with buffers of the largest lengths, whatever they hold
pub run_cases : (b : Buffers) → sizes b ≡ largest → map (observed b) runs ≡ map due runs
run_cases = as_due runs computed
