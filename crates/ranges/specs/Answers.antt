-- The papers' numbers and values for each case of the answer of a run over ranges. 02, W14.
use Rattle.std.specs.Prelude.{Bool, true, false, List, [], ℕ, Result, Ok, Err}
use Rattle.std.proofs.Math.Option.{Option, none, some}
use Rattle.semantics.specs.Runs.{GroundOf, ground_bool, ground_num, OutcomeOf, ended, stopped, AnswerOf, refused, ran, AfterOf}
use Rattle.intervals.specs.Intervals.{interval, intervals}
use Rattle.stores.specs.declared.values.Stop.{Stop}
use Rattle.stores.specs.Stops.{stop_cause, stop_place}
use Rattle.interp.specs.Answers.{refusal_cause, refusal_place, counts_model, buffers_of}
use Rattle.ranges.specs.declared.answer.Truth.{Truth}
use Rattle.ranges.specs.declared.answer.Truth.TheVariants.{Yes, No, Undecided}
use Rattle.ranges.specs.declared.answer.IntervalGround.{IntervalGround}
use Rattle.ranges.specs.declared.answer.IntervalGround.TheVariants.{Truth as OfTruth, Interval as OfInterval}
use Rattle.ranges.specs.declared.answer.IntervalRefusal.{IntervalRefusal}
use Rattle.ranges.specs.declared.answer.IntervalRefusal.TheVariants.{Run, Pairs}
use Rattle.ranges.specs.declared.answer.IntervalRan.{IntervalRan}

-- "An end is a range, or yes, no or undecided"
abbrev pub truth_model : Truth → Option Bool
truth_model Yes = some true
truth_model No = some false
truth_model Undecided = none

abbrev pub interval_ground_model : IntervalGround → GroundOf intervals
interval_ground_model (OfTruth t) = ground_bool (truth_model t)
interval_ground_model (OfInterval lowest highest) = ground_num (interval lowest highest)

abbrev pub interval_outcome_model : Result IntervalGround Stop → OutcomeOf intervals
interval_outcome_model (Ok v) = ended (interval_ground_model v)
interval_outcome_model (Err x) = stopped (stop_cause x) (stop_place x)

-- "a wrong number of pairs, a lowest above its highest or a version 2 sheet is 35, after 16"
abbrev pub interval_refusal_cause : IntervalRefusal → ℕ
interval_refusal_cause (Run f) = refusal_cause f
interval_refusal_cause Pairs = 35

abbrev pub interval_refusal_place : IntervalRefusal → ℕ
interval_refusal_place (Run f) = refusal_place f
interval_refusal_place Pairs = 0

abbrev pub IntervalRun : Type 0
IntervalRun = Result IntervalRan IntervalRefusal

abbrev pub interval_run_model : IntervalRun → AnswerOf intervals
interval_run_model (Err f) = refused (interval_refusal_cause f) (interval_refusal_place f)
interval_run_model (Ok r) = ran (interval_outcome_model r.outcome) (counts_model r.made)

-- its answer and what the buffers then hold; an eager run has no frame store
abbrev pub after_intervals : IntervalRun → (cells posts : List ℕ) → AfterOf intervals
after_intervals r cells posts = record { answer = interval_run_model r; buffers = buffers_of cells posts [] }
