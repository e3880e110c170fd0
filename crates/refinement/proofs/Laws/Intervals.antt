-- How words stand for ranges and for truth values that may be undecided: a word has the lowest number as its payload and the highest in its upper half, and
-- the payload 2 is undecided.
use Rattle.std.specs.Prelude.{Bool, true, false, List, ◌≡◌, ℕ, ◌+◌, ◌-◌, ◌<◌, min, leb, ltb, get_or}
use Rattle.std.proofs.Math.Bool.{cond}
use Rattle.std.proofs.Math.Option.{Option, none, some}
use Rattle.std.proofs.Math.Path.{refl, subst}
use Rattle.std.proofs.Common.{sym, ◌∙◌, arith}
use Rattle.program.specs.Limits.{max_number}
use Rattle.program.specs.Terms.{Op}
use Rattle.program.specs.declared.records.Counts.{Counts}
use Rattle.semantics.specs.Runs.{ended, ground_bool, stopped}
use Rattle.intervals.specs.Intervals.{Interval, sum_of, difference_of, less_of, interval_entry, intervals}
use Rattle.intervals.specs.Pairs.{pair_of, over_intervals}
use Rattle.stores.specs.declared.values.Stop.{Stop}
use Rattle.stores.specs.declared.values.Stop.TheVariants.{Check, Stuck, OpenCalls, Calls, Cells, Posts, Undecided}
use Rattle.stores.specs.Words.{boolean_word, interval_word, undecided_word, payload_of, env_of, out_by}
use Rattle.stores.specs.Stops.{stop_cause, stop_place}
use Rattle.termtable.specs.Table.{word_small, word_first, word_second}
use Rattle.access.specs.declared.Mode.{Mode}
use Rattle.machine.specs.Steps.{result_word, saturates_of, less_word, interval_result, numbers_result, entry_of, listed_as}
use Rattle.refinement.specs.Claims.{decided_by, interval_outcome_by, interval_outcome_of, IntervalTable}
use Rattle.refinement.proofs.Laws.Codings.{WordOfSort, kind_number, numbers_saturate, Coding, Decoding}
use Rattle.refinement.proofs.Laws.Trees.{Tabled}

pub record IntervalNumber (w : ℕ) (n : Interval) : Type 0 where
  pub word : WordOfSort 1 w
  pub lowest_is : payload_of w ≡ n.low
  pub highest_is : env_of w ≡ n.high

pub record IntervalTruth (w : ℕ) (b : Option Bool) : Type 0 where
  pub word : WordOfSort 0 w
  pub decided_is : decided_by (payload_of w) ≡ b

pub number_interval : (l h : ℕ) (n : Interval) → l < 65536 → h < 65536 → l ≡ n.low → h ≡ n.high → IntervalNumber (interval_word l h) n
number_interval l h n p q e f =
    let word : WordOfSort 1 (interval_word l h) = record { sort_is = omega arith; small = omega arith } in
    let low : payload_of (interval_word l h) ≡ l = omega arith in
    let high : env_of (interval_word l h) ≡ h = omega arith in
    record { word = word; lowest_is = low ∙ e; highest_is = high ∙ f }

pub truth_interval : (b : Bool) → IntervalTruth (boolean_word b) (some b)
truth_interval true = record { word = record { sort_is = refl; small = omega arith }; decided_is = refl }
truth_interval false = record { word = record { sort_is = refl; small = omega arith }; decided_is = refl }

-- what two tests come to
tests_interval : (p q : Bool)
    → IntervalTruth (cond p (boolean_word true) (cond q (boolean_word false) undecided_word)) (cond p (some true) (cond q (some false) none))
tests_interval true q = truth_interval true
tests_interval false true = truth_interval false
tests_interval false false = record { word = record { sort_is = refl; small = omega arith }; decided_is = refl }

sum_same : (a b m n : ℕ) → a ≡ m → b ≡ n → min (a + b) max_number ≡ min max_number (m + n)
sum_same a b m n p q = omega arith

module _ (mode : Mode) (is-interval : mode.intervals ≡ true) where
  result_interval : (k v w : ℕ) → numbers_result mode.intervals k v w ≡ interval_result k (payload_of v) (env_of v) (payload_of w) (env_of w)
  unfolding numbers_result
  result_interval k v w =
      λ i. cond (is-interval i) (interval_result k (payload_of v) (env_of v) (payload_of w) (env_of w)) (result_word k (payload_of v) (payload_of w))

  module _ {v w : ℕ} {m n : Interval} (p : IntervalNumber v m) (q : IntervalNumber w n) where
    pub sum_interval : IntervalNumber (numbers_result mode.intervals 11 v w) (sum_of m n)
    unfolding interval_result
    sum_interval =
        subst (λ r. IntervalNumber r (sum_of m n)) (sym (result_interval 11 v w))
        (number_interval (min (payload_of v + payload_of w) max_number) (min (env_of v + env_of w) max_number) (sum_of m n) (omega arith) (omega arith)
        (sum_same (payload_of v) (payload_of w) m.low n.low p.lowest_is q.lowest_is)
        (sum_same (env_of v) (env_of w) m.high n.high p.highest_is q.highest_is))

    pub difference_interval : IntervalNumber (numbers_result mode.intervals 12 v w) (difference_of m n)
    unfolding interval_result
    difference_interval =
        subst (λ r. IntervalNumber r (difference_of m n)) (sym (result_interval 12 v w))
        (number_interval (payload_of v - env_of w) (env_of v - payload_of w) (difference_of m n) (omega arith) (omega arith)
        (λ i. p.lowest_is i - q.highest_is i) (λ i. p.highest_is i - q.lowest_is i))

    pub less_interval : IntervalTruth (numbers_result mode.intervals 13 v w) (less_of m n)
    unfolding interval_result less_word
    less_interval =
        subst (λ r. IntervalTruth r (less_of m n)) (sym (result_interval 13 v w))
        (subst (IntervalTruth (less_word (payload_of v) (env_of v) (payload_of w) (env_of w)))
        (λ i. cond (ltb (p.highest_is i) (q.lowest_is i)) (some true) (cond (leb (q.highest_is i) (p.lowest_is i)) (some false) none))
        (tests_interval (ltb (env_of v) (payload_of w)) (leb (env_of w) (payload_of v))))

  pub counted_interval : (op : Op) (v w : ℕ) → numbers_saturate mode.intervals (kind_number op) v w ≡ false
  counted_interval op v w = λ i. cond (is-interval i) false (saturates_of (kind_number op) (payload_of v) (payload_of w))

  pub entry_interval : (x : ℕ) {w : ℕ} {n : Interval} → IntervalNumber w n → listed_as mode.intervals x w ≡ interval_entry n
  unfolding listed_as
  entry_interval x {w} h = λ i. cond (is-interval i) (entry_of (h.lowest_is i) (h.highest_is i)) (entry_of (word_small x) (payload_of w))

  unfoldable pub interval_coding : Coding intervals mode
  interval_coding = record {
    Number = IntervalNumber;
    Truth = IntervalTruth;
    number_word_holds = λ h. h.word;
    truth_word = λ h. h.word;
    truth_coded = truth_interval;
    decide_coded = λ h. h.decided_is;
    sum_coded = λ p q. sum_interval p q;
    difference_coded = λ p q. difference_interval p q;
    less_coded = λ p q. less_interval p q;
    saturates_coded = λ op {v} {w} p q. counted_interval op v w;
    entry_coded = λ x h. entry_interval x h;
  }

  -- ---- what a word tells
  stop_cases : (r : ℕ) (x : Stop) (e : ℕ) → interval_outcome_by r (stop_cause x) (stop_place x) e ≡ stopped (stop_cause x) (stop_place x)
  unfolding interval_outcome_by out_by
  stop_cases r (Check t) e = refl
  stop_cases r (Stuck t) e = refl
  stop_cases r (OpenCalls t) e = refl
  stop_cases r (Calls t) e = refl
  stop_cases r (Cells t) e = refl
  stop_cases r (Posts t) e = refl
  stop_cases r (Undecided t) e = refl

  pub interval_decoding : Decoding interval_coding interval_outcome_of
  unfolding interval_outcome_by out_by interval_coding
  interval_decoding = record {
    decodes_truth = λ r {w} h.
        (λ i. interval_outcome_by r (h.word.sort_is i) (payload_of w) (env_of w)) ∙ (λ i. ended (ground_bool (h.decided_is i)));
    decodes_number = λ r {w} {n} h. λ i. interval_outcome_by r (h.word.sort_is i) (h.lowest_is i) (h.highest_is i);
    decodes_function = λ r {w} h. λ i. interval_outcome_by r (h.sort_is i) (payload_of w) (env_of w);
    decodes_stop = λ r x {w} p q. (λ i. interval_outcome_by r (p i) (q i) (env_of w)) ∙ stop_cases r x (env_of w);
  }

  -- ---- the words with the pairs
  pub interval_tabled : {s : List ℕ} {c : Counts} {pairs table : List ℕ} → IntervalTable s c pairs table
      → Tabled (over_intervals s pairs) interval_coding s c table
  unfolding interval_coding
  interval_tabled {s} {c} {pairs} {table} h = record {
    others = h.others;
    number_kind = h.kind_is;
    number_coded = λ t l e.
        number_interval (word_first (get_or table t 0)) (word_second (get_or table t 0)) (pair_of s pairs t) (omega arith) (omega arith)
        (h.lowest_is t l e) (h.highest_is t l e);
  }
