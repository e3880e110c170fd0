-- Whole runs over ranges, from the caller's arguments to the answer and the contents of every lent buffer: the plain run's definitions over another
-- interpretation, with one condition more. "An end is a range, or yes, no or undecided".
use Rattle.std.specs.Prelude.{List, [], ◌∷◌, ◌++◌, ℕ}
use Rattle.program.specs.Screening.{Condition, screen, unless}
use Rattle.semantics.specs.Meaning.{plain}
use Rattle.semantics.specs.Runs.{Request, Buffers, Sizes, sizes, run_conditions, evaluation_over, CourseOf, settled, AfterOf, after_course}
use Rattle.intervals.specs.Intervals.{intervals}
use Rattle.intervals.specs.Pairs.{pairs_ok, over_intervals}

-- "is 35, after 16, with every buffer untouched"
abbrev pub interval_conditions : List ℕ → (pairs : List ℕ) → Request → Sizes → List Condition
interval_conditions s ps q z = run_conditions s q z ++ unless 35 (pairs_ok s ps) ∷ []

-- "An eager run": the request is one of the eager runner
unfoldable pub interval_course : List ℕ → (pairs : List ℕ) → Request → Sizes → CourseOf intervals
interval_course s ps q z = settled (screen (interval_conditions s ps q z)) λ _. evaluation_over (over_intervals s ps) (plain q.enforce) q.runner s q z

unfoldable pub interval_run : List ℕ → (pairs : List ℕ) → Request → Buffers → AfterOf intervals
interval_run s ps q b = after_course s q b (interval_course s ps q (sizes b))
