-- What a report answers and leaves in the buffers that it was lent.
use Rattle.std.specs.Prelude.{Bool, true, false, cond, List, [], ◌++◌, ℕ, leb, length, drop, Result, Ok, Err}
use Rattle.typing.specs.Verdicts.{Verdict, accepted, rejected, verdict}
use Rattle.semantics.specs.Runs.{Buffers, are_largest, run}
use Rattle.interp.specs.Answers.{buffers_of}
use Rattle.text.specs.Text.{program_request, printed}
use Rattle.report.specs.declared.answer.Undelivered.{Undelivered}
use Rattle.report.specs.declared.answer.Undelivered.TheVariants.{TooShort, Unfit}

-- the text, so long, was written; it found no place; nothing was done, since the buffers are not the largest
pub data ReportAnswer : Type 0 where
  written tooShort : (length : ℕ) → ReportAnswer
  unfit : ReportAnswer

abbrev pub reported_model : Result ℕ Undelivered → ReportAnswer
reported_model (Ok n) = written n
reported_model (Err (TooShort n)) = tooShort n
reported_model (Err Unfit) = unfit

-- the answer, with the cell store, the list of posts and the place for the text as they are left
pub record Report : Type 0 where
  pub answer : ReportAnswer
  pub buffers : Buffers
  pub text : List ℕ

abbrev pub after_report : Result ℕ Undelivered → (cells posts text : List ℕ) → Report
after_report r cells posts text = record { answer = reported_model r; buffers = buffers_of cells posts []; text = text }

-- a text stands at the front of the place for it, whose rest is untouched; where it does not fit, all of it is
abbrev pub delivered : (fits : Bool) (p text : List ℕ) → Buffers → Report
delivered true p text b = record { answer = written (length p); buffers = b; text = p ++ drop (length p) text }
delivered false p text b = record { answer = tooShort (length p); buffers = b; text = text }

-- the buffers after a sheet with this verdict: a refused one is not run
abbrev pub buffers_after_report : Verdict → List ℕ → Buffers → Buffers
buffers_after_report (accepted n τ N) s b = (run s program_request b).buffers
buffers_after_report (rejected c p) s b = b

-- "with the largest … buffers"
unfoldable pub reported : (s : List ℕ) → Buffers → (text : List ℕ) → Report
reported s b text =
    cond (are_largest b) (delivered (leb (length (printed s)) (length text)) (printed s) text (buffers_after_report (verdict s) s b))
    (record { answer = unfit; buffers = b; text = text })
