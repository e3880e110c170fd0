-- Runs with a record. 02, W12: "Both runners can record each check, test and guard they decide as term, privilege and yes or no, in the order met; a full
-- record takes no more, and the run goes on. Its answer is as without a record, with the number of entries beside it."
use Rattle.std.specs.Prelude.{List, [], ◌++◌, reverse, ℕ, length, drop}
use Rattle.program.specs.Screening.{screen}
use Rattle.traces.specs.Traces.{Event, trace_bytes, recorded}
use Rattle.semantics.specs.Values.{Budget, budget}
use Rattle.semantics.specs.Meaning.{traced}
use Rattle.semantics.specs.Runs.{Request, Buffers, Sizes, sizes, run_conditions, evaluation_in, Course, rejected, started, settled, left, After, run}

-- the course of a run that lists what it decides; but for the list it is that of the run (RecordTheorems.antt, as_without)
unfoldable pub traced_course : List ℕ → Request → Sizes → Course
traced_course s q z = settled (screen (run_conditions s q z)) λ _. evaluation_in (traced q.enforce) q.runner s q z

abbrev pub decided_in : Budget → List Event
decided_in (budget c d r l) = reverse l.decisions

-- a run that is turned back decides nothing
abbrev pub decisions_made : Course → List Event
decisions_made (rejected c p) = []
decisions_made (started x) = decided_in (left x)

-- the complete list of a run's decisions, "in the order met"
abbrev pub decisions : List ℕ → Request → Sizes → List Event
decisions s q z = decisions_made (traced_course s q z)

-- what a run with a record tells and leaves: answer and buffers, the number of entries, and the record
pub record Recorded : Type 0 where
  pub after : After
  pub entries : ℕ
  pub noted : List ℕ

-- the entries stand first, and "bytes past the last entry are untouched"
abbrev pub with_entries : (kept : List Event) (noted : List ℕ) → List ℕ
with_entries kept t = trace_bytes kept ++ drop (length (trace_bytes kept)) t

abbrev pub recorded_with : After → (kept : List Event) (noted : List ℕ) → Recorded
recorded_with a kept t = record { after = a; entries = length kept; noted = with_entries kept t }

-- the run, and of its decisions what the lent record takes
unfoldable pub recording : List ℕ → Request → Buffers → (noted : List ℕ) → Recorded
recording s q b t = recorded_with (run s q b) (recorded (length t) (decisions s q (sizes b))) t
