-- How words stand for plain numbers and booleans: a number is a word's payload, and the payload of a boolean is 0 or 1.
use Rattle.std.specs.Prelude.{Bool, true, false, Err, List, ◌≡◌, ℕ, ◌+◌, ◌-◌, ◌<◌, min}
use Rattle.std.proofs.Math.Bool.{cond}
use Rattle.std.proofs.Math.Option.{some}
use Rattle.std.proofs.Math.Path.{refl, subst}
use Rattle.std.proofs.Common.{sym, ap, ◌∙◌, arith}
use Rattle.std.proofs.Math.Dec.{ltb}
use Rattle.std.proofs.Math.ListN.{get_or}
use Rattle.program.specs.Limits.{max_number}
use Rattle.program.specs.Terms.{Op, sum, difference, less}
use Rattle.program.specs.Records.{CountsOf}
use Rattle.program.proofs.Laws.Readable.{WellFormed}
use Rattle.program.proofs.Laws.Records.{term_is}
use Rattle.program.specs.declared.records.Counts.{Counts}
use Rattle.semantics.specs.Domains.{saturates, post_entry, single, standard}
use Rattle.semantics.specs.Runs.{ground_bool, ended}
use Rattle.stores.specs.declared.values.Stop.{Stop}
use Rattle.stores.specs.declared.values.Stop.TheVariants.{Check, Stuck, OpenCalls, Calls, Cells, Posts, Undecided}
use Rattle.stores.specs.Words.{boolean_word, number_word, interval_word, payload_of, env_of, out_by, out_of}
use Rattle.stores.specs.Stops.{stop_cause, stop_place}
use Rattle.termtable.specs.Table.{word_small, word_first, word_second, TermWords}
use Rattle.access.specs.declared.Mode.{Mode}
use Rattle.machine.specs.Steps.{result_word, saturates_of, interval_result, numbers_result, entry_of, listed_as}
use Rattle.refinement.specs.Claims.{outcome_of, decided_by}
use Rattle.refinement.proofs.Laws.Codings.{WordOfSort, kind_number, numbers_saturate, Coding, Decoding}
use Rattle.refinement.proofs.Laws.Trees.{Tabled}

pub record ExactNumber (w n : ℕ) : Type 0 where
  pub word : WordOfSort 1 w
  pub number_is : payload_of w ≡ n

pub record ExactTruth (w : ℕ) (b : Bool) : Type 0 where
  pub word : WordOfSort 0 w
  pub payload_is : payload_of w ≡ cond b 1 0

number_exact : (k n : ℕ) → k < 65536 → k ≡ n → ExactNumber (number_word k) n
number_exact k n h e = record { word = record { sort_is = omega arith; small = omega arith }; number_is = omega arith }

-- whatever is in the upper half
pub literal_exact : (l h : ℕ) → l < 65536 → h < 65536 → ExactNumber (interval_word l h) l
literal_exact l h p q = record { word = record { sort_is = omega arith; small = omega arith }; number_is = omega arith }

pub truth_exact : (b : Bool) → ExactTruth (boolean_word b) b
truth_exact true = record { word = record { sort_is = refl; small = omega arith }; payload_is = refl }
truth_exact false = record { word = record { sort_is = refl; small = omega arith }; payload_is = refl }

pub decide_exact : (b : Bool) → decided_by (cond b 1 0) ≡ some b
decide_exact true = refl
decide_exact false = refl

positive_exact : (b : Bool) → ltb 0 (cond b 1 0) ≡ b
positive_exact true = refl
positive_exact false = refl

saturates_exact : (op : Op) (a b : ℕ) → saturates_of (kind_number op) a b ≡ saturates op a b
unfolding saturates_of
saturates_exact sum a b = refl
saturates_exact difference a b = refl
saturates_exact less a b = refl

module _ (mode : Mode) (plain : mode.intervals ≡ false) where
  result_exact : (k v w : ℕ) → numbers_result mode.intervals k v w ≡ result_word k (payload_of v) (payload_of w)
  unfolding numbers_result
  result_exact k v w = λ i. cond (plain i) (interval_result k (payload_of v) (env_of v) (payload_of w) (env_of w)) (result_word k (payload_of v) (payload_of w))

  module _ {v w m n : ℕ} (p : ExactNumber v m) (q : ExactNumber w n) where
    pub sum_exact : ExactNumber (numbers_result mode.intervals 11 v w) (min max_number (m + n))
    unfolding result_word
    sum_exact =
        subst (λ r. ExactNumber r (min max_number (m + n))) (sym (result_exact 11 v w))
        (number_exact (min (payload_of v + payload_of w) max_number) (min max_number (m + n)) (omega arith) (omega (arith, p.number_is, q.number_is)))

    pub difference_exact : ExactNumber (numbers_result mode.intervals 12 v w) (m - n)
    unfolding result_word
    difference_exact =
        subst (λ r. ExactNumber r (m - n)) (sym (result_exact 12 v w))
        (number_exact (payload_of v - payload_of w) (m - n) (omega arith) (omega (arith, p.number_is, q.number_is)))

    pub less_exact : ExactTruth (numbers_result mode.intervals 13 v w) (ltb m n)
    unfolding result_word
    less_exact =
        subst (λ r. ExactTruth r (ltb m n)) (sym (result_exact 13 v w))
        (subst (ExactTruth (boolean_word (ltb (payload_of v) (payload_of w)))) (λ i. ltb (p.number_is i) (q.number_is i))
        (truth_exact (ltb (payload_of v) (payload_of w))))

    pub counted_exact : (op : Op) → numbers_saturate mode.intervals (kind_number op) v w ≡ saturates op m n
    counted_exact op = (λ i. cond (plain i) false (saturates_of (kind_number op) (p.number_is i) (q.number_is i))) ∙ saturates_exact op m n

  pub entry_exact : (x : ℕ) {w n : ℕ} → ExactNumber w n → listed_as mode.intervals x w ≡ post_entry (word_small x) n
  unfolding listed_as
  entry_exact x {w} h = λ i. cond (plain i) (entry_of (payload_of w) (env_of w)) (entry_of (word_small x) (h.number_is i))

  unfoldable pub exact_coding : Coding single mode
  exact_coding = record {
    Number = ExactNumber;
    Truth = ExactTruth;
    number_word_holds = λ h. h.word;
    truth_word = λ h. h.word;
    truth_coded = truth_exact;
    decide_coded = λ {w} {b} h. ap decided_by h.payload_is ∙ decide_exact b;
    sum_coded = λ p q. sum_exact p q;
    difference_coded = λ p q. difference_exact p q;
    less_coded = λ p q. less_exact p q;
    saturates_coded = λ op p q. counted_exact p q op;
    entry_coded = λ x h. entry_exact x h;
  }

  -- ---- what a word tells
  stop_out : (x : Stop) (e : ℕ) → out_by (stop_cause x) (stop_place x) e ≡ Err x
  unfolding out_by
  stop_out (Check t) e = refl
  stop_out (Stuck t) e = refl
  stop_out (OpenCalls t) e = refl
  stop_out (Calls t) e = refl
  stop_out (Cells t) e = refl
  stop_out (Posts t) e = refl
  stop_out (Undecided t) e = refl

  pub exact_decoding : Decoding exact_coding (λ r w. outcome_of r (out_of w))
  unfolding out_by exact_coding
  exact_decoding = record {
    decodes_truth = λ r {w} {b} h.
        (λ i. outcome_of r (out_by (h.word.sort_is i) (h.payload_is i) (env_of w))) ∙ (λ i. ended (ground_bool (positive_exact b i)));
    decodes_number = λ r {w} {n} h. λ i. outcome_of r (out_by (h.word.sort_is i) (h.number_is i) (env_of w));
    decodes_function = λ r {w} h. λ i. outcome_of r (out_by (h.sort_is i) (payload_of w) (env_of w));
    decodes_stop = λ r x {w} p q. (λ i. outcome_of r (out_by (p i) (q i) (env_of w))) ∙ (λ i. outcome_of r (stop_out x (env_of w) i));
  }

  -- ---- the decoded words: a number term's has the number of its record
  module _ (s : List ℕ) (f : WellFormed s) (c : Counts) (counts_are : CountsOf s c) (table : List ℕ) (decoded : TermWords s c table) where
    pub exact_tabled : Tabled standard exact_coding s c table
    unfolding exact_coding
    exact_tabled = record {
      others = λ t l n. decoded.holds t;
      number_kind = λ t l e. (decoded.holds t).kind_is ∙ (λ i. (term_is s f c counts_are t l i).kind) ∙ e;
      number_coded = λ t l e.
          let x = get_or table t 0 in
          subst (ExactNumber (interval_word (word_first x) (word_second x))) ((decoded.holds t).first_is ∙ (λ i. (term_is s f c counts_are t l i).first))
          (literal_exact (word_first x) (word_second x) (omega arith) (omega arith));
    }
