-- 01's numbers and values for each case of a run's answer, and a call of a runner in the words of the meaning.
use Rattle.std.specs.Prelude.{Bool, true, List, [], ℕ, Result, Ok, Err}
use Rattle.program.specs.Limits.{max_depth}
use Rattle.program.specs.Answers.{decoding_cause, decoding_place}
use Rattle.semantics.specs.Runs as runs
use Rattle.semantics.specs.Runs.{Runner, eager, Request, Buffers, ground_bool, ground_num, ended, stopped, Answer, refused, ran, After}
use Rattle.semantics.specs.Recording.{Recorded}
use Rattle.stores.specs.declared.values.Stop.{Stop}
use Rattle.stores.specs.Stops.{stop_cause, stop_place}
use Rattle.interp.specs.declared.answer.RunRefusal.{RunRefusal}
use Rattle.interp.specs.declared.answer.RunRefusal.TheVariants.{Unreadable, Start, Buffers as BadBuffers, Allowance}
use Rattle.interp.specs.declared.answer.Ground.{Ground}
use Rattle.interp.specs.declared.answer.Ground.TheVariants.{Bool as VBool, Num}
use Rattle.interp.specs.declared.answer.RunCounts.{RunCounts}
use Rattle.interp.specs.declared.answer.Ran.{Ran}
use Rattle.interp.specs.declared.answer.RecordedRun.{RecordedRun}

-- "14 start stack", "15 buffers", "16 allowance", after the reader's 1 to 8 and 31
abbrev pub refusal_cause : RunRefusal → ℕ
refusal_cause (Unreadable f) = decoding_cause f
refusal_cause Start = 14
refusal_cause BadBuffers = 15
refusal_cause Allowance = 16

abbrev pub refusal_place : RunRefusal → ℕ
refusal_place (Unreadable f) = decoding_place f
refusal_place Start = 0
refusal_place BadBuffers = 0
refusal_place Allowance = 0

-- "an end carries a boolean or a number, a stop its cause and term"
abbrev pub ground_model : Ground → runs.Ground
ground_model (VBool b) = ground_bool b
ground_model (Num n) = ground_num n

abbrev pub outcome_model : Result Ground Stop → runs.Outcome
outcome_model (Ok v) = ended (ground_model v)
outcome_model (Err x) = stopped (stop_cause x) (stop_place x)

-- "both carry calls, cells and posts made"; 02, W10: "ends and stops carry that count beside the calls"
abbrev pub counts_model : RunCounts → runs.RunCounts
counts_model m = record { calls = m.calls; cells = m.cells; posts = m.posts; saturated = m.saturated }

abbrev pub Run : Type 0
Run = Result Ran RunRefusal

abbrev pub run_model : Run → Answer
run_model (Err f) = refused (refusal_cause f) (refusal_place f)
run_model (Ok r) = ran (outcome_model r.outcome) (counts_model r.made)

-- ---- a call of a runner
abbrev pub request_of : Runner → (enforce : Bool) (start : List ℕ) (calls depth : ℕ) → Request
request_of r e start calls depth = record { runner = r; enforce = e; start = start; calls = calls; depth = depth }

-- "eagerly, checks in force, on an empty stack, with 100 open calls": what the program (01), the register block (W2) and the lines (W6) ask for
abbrev pub empty_stack_request : (calls : ℕ) → Request
empty_stack_request calls = request_of eager true [] calls max_depth

abbrev pub buffers_of : (cells posts frames : List ℕ) → Buffers
buffers_of cells posts frames = record { cells = cells; posts = posts; frames = frames }

-- its answer and what the buffers then hold
abbrev pub after : Run → (cells posts frames : List ℕ) → After
after r cells posts frames = record { answer = run_model r; buffers = buffers_of cells posts frames }

-- a run with a record without it
abbrev pub run_of : Result RecordedRun RunRefusal → Run
run_of (Ok r) = Ok r.ran
run_of (Err f) = Err f

-- a run that is turned back has no entry
abbrev pub entries_of : Result RecordedRun RunRefusal → ℕ
entries_of (Ok r) = r.entries
entries_of (Err f) = 0

-- 02, W12: "Its answer is as without a record, with the number of entries beside it"; and what the record then holds
abbrev pub after_recording : Result RecordedRun RunRefusal → (cells posts frames noted : List ℕ) → Recorded
after_recording r cells posts frames noted = record { after = after (run_of r) cells posts frames; entries = entries_of r; noted = noted }
