-- What a reader may count on: a place of 209 bytes is enough for every text, and what was written is the text.
use Rattle.std.specs.Prelude.{Bool, true, false, cond, List, ◌++◌, ◌≡◌, ℕ, ◌≤◌, leb, length, take, drop, Result, Ok}
use Rattle.std.proofs.Common.{sym, ap, ◌∙◌, arith, length-append, take_at, le-leb}
use Rattle.typing.specs.Verdicts.{verdict}
use Rattle.semantics.specs.Runs.{Buffers, are_largest}
use Rattle.text.specs.Text.{printed}
use Rattle.text.specs.Theorems.{text_most}
use Rattle.report.specs.Reports.{written, tooShort, unfit, Report, after_report, delivered, buffers_after_report, reported}
use Rattle.report.specs.declared.answer.Undelivered.{Undelivered}

-- a report by its two tests
abbrev by : (s text : List ℕ) (after before : Buffers) (large fits : Bool) → Report
by s text u b large fits = cond large (delivered fits (printed s) text u) (record { answer = unfit; buffers = b; text = text })

-- so 209 bytes of place are enough for every sheet
pub always_written : (s : List ℕ) (b : Buffers) (text : List ℕ) → are_largest b ≡ true → 209 ≤ length text → (reported s b text).answer
    ≡ written (length (printed s))
unfolding reported
always_written s b text e h =
    λ i. (by s text (buffers_after_report (verdict s) s b) b (e i) (le-leb (length (printed s)) (length text) (omega (arith, text_most s)) i)).answer

-- ---- what is written is the text, at the front of the place for it
pub record TextWritten (s : List ℕ) (n : ℕ) (text : List ℕ) : Type 0 where
  pub length_is : n ≡ length (printed s)
  pub fits : n ≤ length text
  pub front_is : take n text ≡ printed s

written_front : (s text text' : List ℕ) {n : ℕ} → n ≡ length (printed s) → text' ≡ printed s ++ drop (length (printed s)) text → TextWritten s n text'
written_front s text text' {n = n} l e = record {
  length_is = l;
  fits = omega (arith, ap length e, length-append (printed s) (drop (length (printed s)) text));
  front_is = ap (take n) e ∙ take_at (printed s) (drop (length (printed s)) text) n (sym l);
}

by_cases : (s : List ℕ) (u b : Buffers) (text cells posts text' : List ℕ) {n : ℕ} (large fits : Bool)
    → after_report (Ok n) cells posts text' ≡ by s text u b large fits → TextWritten s n text'
by_cases s u b text cells posts text' {n = n} true true e =
    let f : written n ≡ written (length (printed s)) = ap (λ (r : Report). r.answer) e in
    written_front s text text' (cc) (ap (λ (r : Report). r.text) e)
by_cases s u b text cells posts text' {n = n} true false e =
    let f : written n ≡ tooShort (length (printed s)) = ap (λ (r : Report). r.answer) e in
    absurd (let z : ◌≡◌ {A = ℕ} 0 1 = cc in omega arith)
by_cases s u b text cells posts text' {n = n} false fits e =
    let f : written n ≡ unfit = ap (λ (r : Report). r.answer) e in
    absurd (let z : ◌≡◌ {A = ℕ} 0 1 = cc in omega arith)

pub text_written : (s : List ℕ) (b : Buffers) (text cells posts text' : List ℕ) {r : Result ℕ Undelivered} {n : ℕ} → r ≡ Ok n → after_report r cells posts text'
    ≡ reported s b text → TextWritten s n text'
unfolding reported
text_written s b text cells posts text' e h =
    by_cases s (buffers_after_report (verdict s) s b) b text cells posts text' (are_largest b) (leb (length (printed s)) (length text))
    (sym (ap (λ (z : Result ℕ Undelivered). after_report z cells posts text') e) ∙ h)
