-- The theorems about records of runs, 02, W12: "For one sheet, start, allowances and buffers, with checks in force in both or passed over in both, and neither
-- run turned back, their records are equal". It holds of any two runners. Claims.antt says what the words mean.
use Rattle.std.specs.Prelude.{List, [], ◌∷◌, ◌≡◌, refl, ℕ, zero, suc, ◌*◌, ◌/◌, ◌-◌, ◌≤◌, min, length, take}
use Rattle.std.proofs.Common.{sym, ap, ◌∙◌, arith, length-take, take_all, take-take}
use Rattle.traces.specs.Traces.{Event, trace_bytes, recorded}
use Rattle.traces.specs.Comparing.{Subsequence, fits, comparison}
use Rattle.traces.proofs.Laws.Records.{bytes_take}
use Rattle.traces.proofs.Theorems.{dropped_fits, fuller_fits}
use Rattle.semantics.specs.Meaning.{traced}
use Rattle.semantics.specs.Runs.{Request, Buffers, sizes, evaluation_in, started}
use Rattle.semantics.specs.Recording.{decisions_made, decisions, recording}
use Rattle.semantics.proofs.Laws.Starting.{clear_well}
use Rattle.semantics.proofs.Theorems.{starts_screened}
use Rattle.semantics.proofs.RecordTheorems.{traced_clear, record_holds}
use Rattle.soundness.specs.Claims.{LikeRuns, entries_in, SameRecord, Begins}
use Rattle.soundness.specs.Laws.Runs.{same_evaluation}

taken_again : {A : Type 0} (n : ℕ) (l : List A) → take (length (take n l)) l ≡ take n l
taken_again zero l = refl
taken_again (suc n) [] = refl
taken_again (suc n) (x ∷ xs) = ap (λ l. x ∷ l) (taken_again n xs)

module _ (s : List ℕ) (x y : Request) (b d : Buffers) (l : LikeRuns s x y b d) where
  abbrev all : List Event
  all = decisions s x (sizes b)

  -- Any two runners decide the same, in the same order.
  pub decisions_agree : decisions s x (sizes b) ≡ decisions s y (sizes d)
  decisions_agree =
      let hx = starts_screened s x b l.first_starts in
      let hy = starts_screened s y d l.second_starts in
      ap decisions_made (traced_clear s x (sizes b) hx)
      ∙ ap (λ z. decisions_made (started z)) (same_evaluation s (clear_well s x b hx) (traced x.enforce) x y b d l.comparable)
      ∙ (λ i. decisions_made (started (evaluation_in (traced (l.same_checks i)) y.runner s y (sizes d))))
      ∙ ap decisions_made (sym (traced_clear s y (sizes d) hy))

  module _ (t r : List ℕ) where
    first_entries : entries_in (recording s x b t) ≡ trace_bytes (recorded (length t) all)
    first_entries = (record_holds s x b t).first_bytes

    second_entries : entries_in (recording s y d r) ≡ trace_bytes (recorded (length r) all)
    second_entries = (record_holds s y d r).first_bytes ∙ λ i. trace_bytes (recorded (length r) (sym decisions_agree i))

    first_number : (recording s x b t).entries ≡ length (recorded (length t) all)
    first_number = (record_holds s x b t).as_many ∙ sym (length-take (length t / 4) all)

    second_number : (recording s y d r).entries ≡ length (recorded (length r) all)
    second_number =
        (record_holds s y d r).as_many ∙ (λ i. min (length r / 4) (length (sym decisions_agree i))) ∙ sym (length-take (length r / 4) all)

    -- So their records are equal, if they have room for equally many entries
    pub records_agree : length t / 4 ≡ length r / 4 → SameRecord (recording s x b t) (recording s y d r)
    records_agree e = record {
      same_number = first_number ∙ (λ i. length (take (e i) all)) ∙ sym second_number;
      same_bytes = first_entries ∙ (λ i. trace_bytes (take (e i) all)) ∙ sym second_entries;
    }

    -- and the shorter one is the beginning of the longer one,
    pub shorter_begins : length t ≤ length r → Begins (recording s x b t) (recording s y d r)
    shorter_begins h =
        let n = (recording s x b t).entries in
        let few : n ≤ length r / 4 = omega (arith, (record_holds s x b t).as_many) in
        let same : take n (recorded (length r) all) ≡ recorded (length t) all =
        take-take n (length r / 4) all few ∙ (λ i. take (first_number i) all) ∙ taken_again (length t / 4) all in
        record {
          no_more = omega (arith, first_number, second_number, length-take (length t / 4) all, length-take (length r / 4) all);
          beginning = first_entries ∙ sym (ap (λ (z : List ℕ). take (4 * n) z) second_entries ∙ bytes_take n (recorded (length r) all) ∙ ap trace_bytes same);
        }

    -- which held against it fits.
    pub shorter_fits : length t ≤ length r
        → comparison (entries_in (recording s x b t)) (entries_in (recording s y d r)) ≡ fits ((recording s y d r).entries - (recording s x b t).entries)
    shorter_fits h =
        (λ i. comparison (first_entries i) (second_entries i)) ∙ fuller_fits (length t) (length r) all h
        ∙ λ i. fits (sym second_number i - sym first_number i)

    -- "The unit's recorder may drop entries, so hold it against the office's complete record": whatever it keeps of them fits.
    pub complete_fits : (kept : List Event) → Subsequence kept all → 4 * length all ≤ length r
        → comparison (trace_bytes kept) (entries_in (recording s y d r)) ≡ fits (length all - length kept)
    complete_fits kept k h =
        ap (comparison (trace_bytes kept)) (second_entries ∙ ap trace_bytes (take_all (length r / 4) all (omega arith))) ∙ dropped_fits k
