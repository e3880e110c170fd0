-- What the theorems about runs over ranges claim. 02, W14: "Each term keeps one choice for the run; unless the run is refused or stops by 36, for every such
-- choice the plain run from the same stack, its checks treated alike, under the same allowances and buffers ends inside the answer or stops with the same cause
-- and term, with as many posts, each inside its range, and equal calls and cells."
use Rattle.std.specs.Prelude.{Bool, true, List, [], ◌∷◌, ◌≡◌, ℕ, ◌<◌, ◌≤◌, get_or}
use Rattle.std.proofs.Math.Option.{none, some}
use Rattle.program.specs.Layout.{terms, first}
use Rattle.program.specs.Screening.{screen}
use Rattle.semantics.specs.Domains.{single, Interpretation}
use Rattle.semantics.specs.Meaning.{plain}
use Rattle.semantics.specs.Runs.{Request, Buffers, Sizes, sizes, run_conditions, evaluation_over, Course, settled, GroundOf, Ground, ground_bool, ground_num, OutcomeOf, Outcome, ended, stopped, RunCounts, AnswerOf, Answer, ran, AfterOf, After, after_course}
use Rattle.soundness.specs.Claims.{posts_of}
use Rattle.intervals.specs.Intervals.{Interval, interval_entry, intervals}
use Rattle.intervals.specs.Pairs.{is_number, pair_of}

pub record Inside (i : Interval) (n : ℕ) : Type 0 where
  pub least : i.low ≤ n
  pub most : n ≤ i.high

-- ---- "such a pair of 16-bit numbers", and "one choice for the run" of each number term, said of the term and the number of its record
pub record Words (pairs : List ℕ) : Type 0 where
  pub below : (i : ℕ) → get_or pairs i 0 < 65536

pub record Choice (s pairs : List ℕ) (ρ : (at n : ℕ) → ℕ) : Type 0 where
  pub inside : (t : ℕ) → t < terms s → is_number s t ≡ true → Inside (pair_of s pairs t) (ρ t (first s t))

-- "the plain run" for a choice: number terms stand for what is chosen. The run of a sheet is the one for its own numbers (Theorems.antt: own_numbers).
abbrev pub chosen : (ρ : (at n : ℕ) → ℕ) → Interpretation
chosen ρ = record { domain = single; literal = ρ }

unfoldable pub chosen_course : (ρ : (at n : ℕ) → ℕ) → List ℕ → Request → Sizes → Course
chosen_course ρ s q z = settled (screen (run_conditions s q z)) λ _. evaluation_over (chosen ρ) (plain q.enforce) q.runner s q z

unfoldable pub chosen_run : (ρ : (at n : ℕ) → ℕ) → List ℕ → Request → Buffers → After
chosen_run ρ s q b = after_course s q b (chosen_course ρ s q (sizes b))

-- ---- "ends inside the answer or stops with the same cause and term"
pub data InsideGround : GroundOf intervals → Ground → Type 0 where
  inside_number : {i : Interval} {n : ℕ} → Inside i n → InsideGround (ground_num i) (ground_num n)
  inside_decided : {b : Bool} → InsideGround (ground_bool (some b)) (ground_bool b)
  inside_undecided : {b : Bool} → InsideGround (ground_bool none) (ground_bool b)

pub data InsideOutcome : OutcomeOf intervals → Outcome → Type 0 where
  inside_end : {g : GroundOf intervals} {h : Ground} → InsideGround g h → InsideOutcome (ended g) (ended h)
  same_stop : {c t : ℕ} → InsideOutcome (stopped c t) (stopped c t)

-- "with as many posts" "and equal calls and cells"
pub data InsideAnswer : AnswerOf intervals → Answer → Type 0 where
  inside_answer : {o : OutcomeOf intervals} {p : Outcome} {k l : RunCounts} → InsideOutcome o p → k.calls ≡ l.calls → k.cells ≡ l.cells
      → k.posts ≡ l.posts → InsideAnswer (ran o k) (ran p l)

-- "each inside its range", of which an entry is lowest × 65,536 + highest
pub data InsidePosts : List ℕ → List ℕ → Type 0 where
  no_posts : InsidePosts [] []
  next_post : {i : Interval} {n : ℕ} {xs ys : List ℕ} → i.high < 65536 → Inside i n → InsidePosts xs ys → InsidePosts (interval_entry i ∷ xs) (n ∷ ys)

pub record Contains (a : AfterOf intervals) (b : After) : Type 0 where
  pub answers : InsideAnswer a.answer b.answer
  pub posts : InsidePosts (posts_of a) (posts_of b)

-- "unless the run is refused or stops by 36"
pub record Decided (a : AfterOf intervals) : Type 0 where
  pub result : OutcomeOf intervals
  pub made : RunCounts
  pub ran_so : a.answer ≡ ran result made
  pub not_36 : (t : ℕ) → result ≡ stopped 36 t → ⊥
