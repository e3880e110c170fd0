-- How words stand for the numbers and truth values of a domain. What the interpreter does to words by its mode is what the domain does to them.
use Rattle.std.specs.Prelude.{Bool, false, cond, ◌≡◌, ℕ, ◌<◌}
use Rattle.program.specs.Terms.{Op, sum, difference, less}
use Rattle.semantics.specs.Domains.{Domain}
use Rattle.semantics.specs.Runs.{ground_bool, ground_num, OutcomeOf, ended, stopped}
use Rattle.stores.specs.declared.values.Stop.{Stop}
use Rattle.stores.specs.Words.{boolean_word, sort_of, payload_of}
use Rattle.stores.specs.Stops.{stop_cause, stop_place}
use Rattle.termtable.specs.Table.{word_small}
use Rattle.access.specs.declared.Mode.{Mode}
use Rattle.machine.specs.Steps.{numbers_result, saturates_of, listed_as}
use Rattle.refinement.specs.Claims.{decided_by}

-- a word of three parts of 16 bits each, and so below 2^48, with its sort
pub record WordOfSort (sort w : ℕ) : Type 0 where
  pub sort_is : sort_of w ≡ sort
  pub small : w < 281474976710656

-- the number of the kind of an operation on two numbers
abbrev pub kind_number : Op → ℕ
kind_number sum = 11
kind_number difference = 12
kind_number less = 13

-- whether the result of an operation on two words of numbers is counted as saturated
abbrev pub numbers_saturate : (intervals : Bool) (kind a b : ℕ) → Bool
numbers_saturate intervals k a b = cond intervals false (saturates_of k (payload_of a) (payload_of b))

pub record Coding (D : Domain) (mode : Mode) : Type 1 where
  pub Number : (word : ℕ) → D.Number → Type 0
  pub Truth : (word : ℕ) → D.Truth → Type 0
  pub number_word_holds : {w : ℕ} {n : D.Number} → Number w n → WordOfSort 1 w
  pub truth_word : {w : ℕ} {b : D.Truth} → Truth w b → WordOfSort 0 w
  -- boolean terms, and the branch of an if
  pub truth_coded : (b : Bool) → Truth (boolean_word b) (D.truth b)
  pub decide_coded : {w : ℕ} {b : D.Truth} → Truth w b → decided_by (payload_of w) ≡ D.decide b
  -- operations
  pub sum_coded : {v w : ℕ} {m n : D.Number} → Number v m → Number w n → Number (numbers_result mode.intervals 11 v w) (D.sum m n)
  pub difference_coded : {v w : ℕ} {m n : D.Number} → Number v m → Number w n → Number (numbers_result mode.intervals 12 v w) (D.difference m n)
  pub less_coded : {v w : ℕ} {m n : D.Number} → Number v m → Number w n → Truth (numbers_result mode.intervals 13 v w) (D.less m n)
  pub saturates_coded : (op : Op) {v w : ℕ} {m n : D.Number} → Number v m → Number w n
      → numbers_saturate mode.intervals (kind_number op) v w ≡ D.saturates op m n
  -- posts, where x is the word of the post's term
  pub entry_coded : (x : ℕ) {w : ℕ} {n : D.Number} → Number w n → listed_as mode.intervals x w ≡ D.entry (word_small x) n

-- what the word at the root tells, read by `decodes`
pub record Decoding {D : Domain} {mode : Mode} (K : Coding D mode) (decodes : (root word : ℕ) → OutcomeOf D) : Type 0 where
  pub decodes_truth : (r : ℕ) {w : ℕ} {b : D.Truth} → K.Truth w b → decodes r w ≡ ended (ground_bool b)
  pub decodes_number : (r : ℕ) {w : ℕ} {n : D.Number} → K.Number w n → decodes r w ≡ ended (ground_num n)
  pub decodes_function : (r : ℕ) {w : ℕ} → WordOfSort 2 w → decodes r w ≡ stopped 18 r
  pub decodes_stop : (r : ℕ) (x : Stop) {w : ℕ} → sort_of w ≡ stop_cause x → payload_of w ≡ stop_place x → decodes r w ≡ stopped (stop_cause x) (stop_place x)
