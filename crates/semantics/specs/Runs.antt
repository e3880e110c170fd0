-- Whole runs, from the caller's arguments to the answer and the contents of every lent buffer: 01, "Meaning" and "Who can cause which refusal".
use Rattle.std.specs.Prelude.{Bool, true, ◌&&◌, List, [], ◌∷◌, ◌++◌, reverse, ℕ, ◌-◌, ◌/◌, ◌%◌, leb, ltb, eqb, length, drop, replicate}
use Rattle.program.specs.Limits.{max_start, max_cells, max_posts, frame_numbers, max_calls, max_depth}
use Rattle.program.specs.Layout.{principals, authority, root}
use Rattle.program.specs.Terms.{program}
use Rattle.program.specs.Screening.{Condition, Screening, clear, found, screen, unless}
use Rattle.program.specs.Decoding.{decoding_conditions}
use Rattle.semantics.specs.Domains.{Domain, single, Interpretation, standard}
use Rattle.semantics.specs.Values.{bool, num, closure, empty, empty_log, Budget, budget, ResultOf, Result, ends, stops}
use Rattle.semantics.specs.Meaning.{Mode, plain, eval}
use Rattle.semantics.specs.Access.{Frame, frame, privs, lazy_control, rights, eager_control}

pub data Runner : Type 0 where
  eager lazy : Runner

-- what a caller asks for
pub record Request : Type 0 where
  pub runner : Runner
  pub enforce : Bool
  pub start : List ℕ
  pub calls : ℕ
  pub depth : ℕ

-- What the caller's buffers hold: the cell store's bytes, the list for posts, and the frame store, which only a lazy run has.
pub record Buffers : Type 0 where
  pub cells : List ℕ
  pub posts : List ℕ
  pub frames : List ℕ

-- their lengths, on which alone an answer depends
pub record Sizes : Type 0 where
  pub cells : ℕ
  pub posts : ℕ
  pub frames : ℕ

abbrev pub sizes : Buffers → Sizes
sizes b = record { cells = length b.cells; posts = length b.posts; frames = length b.frames }

-- "the largest … buffers" of an eager run, which has no frame store: 65,536 bytes of cells and 256 posts
abbrev pub are_largest : Buffers → Bool
are_largest b = eqb (length b.cells) max_cells && eqb (length b.posts) max_posts

-- ---- the start stack: "A frame is two 32-bit numbers."
abbrev pub stack : List ℕ → List Frame
stack [] = []
stack (n ∷ []) = []
stack (n ∷ E ∷ xs) = frame n E ∷ stack xs

abbrev pub principals_known : (count : ℕ) → List Frame → Bool
principals_known count [] = true
principals_known count (f ∷ fs) = ltb f.principal count && principals_known count fs

-- ---- what turns a run back, "after 1 to 8 and in this order"; 02, W8: 31 comes "straight after 8 and before all else"

-- "14 start stack: more than 16 frames, half a frame, or an unknown principal"
abbrev pub stack_ok : (principals : ℕ) (start : List ℕ) → Bool
stack_ok n start = leb (length start) max_start && eqb (length start % 2) 0 && principals_known n (stack start)

abbrev pub start_ok : List ℕ → Request → Bool
start_ok s q = stack_ok (principals s) q.start

-- "a lazy run's frame store not of 6,496 32-bit numbers"
abbrev pub frames_ok : Runner → ℕ → Bool
frames_ok eager n = true
frames_ok lazy n = eqb n frame_numbers

-- "15 buffers: cell store over 65,536 bytes, more than 256 posts lent", or the frame store
abbrev pub buffers_ok : Runner → Sizes → Bool
buffers_ok r z = leb z.cells max_cells && leb z.posts max_posts && frames_ok r z.frames

-- "16 allowance: calls over 4,096 or open calls over 100"
abbrev pub limits_ok : Request → Bool
limits_ok q = leb q.calls max_calls && leb q.depth max_depth

abbrev pub run_conditions : List ℕ → Request → Sizes → List Condition
run_conditions s q z = decoding_conditions s ++ unless 14 (start_ok s q) ∷ unless 15 (buffers_ok q.runner z) ∷ unless 16 (limits_ok q) ∷ []

-- ---- evaluation

-- "A cell takes eight bytes of the store; bytes left over hold none."
abbrev pub initial : Request → Sizes → Budget
initial q z = budget q.calls (z.cells / 8) z.posts empty_log

-- The eager runner starts with the set that the start stack grants, the lazy one with the stack. The program is a sign, so that the signer named
-- here is never looked at.
abbrev pub evaluation_over : (I : Interpretation) → Mode → Runner → List ℕ → Request → Sizes → ResultOf I.domain
evaluation_over I M eager s q z =
    eval I (eager_control (authority s)) M q.depth (program s) (rights 0 (privs (authority s) (stack q.start))) empty (initial q z)
evaluation_over I M lazy s q z = eval I (lazy_control (authority s)) M q.depth (program s) (stack q.start) empty (initial q z)

abbrev pub evaluation_in : Mode → Runner → List ℕ → Request → Sizes → Result
evaluation_in M r s q z = evaluation_over standard M r s q z

abbrev pub evaluation : Runner → List ℕ → Request → Sizes → Result
evaluation r s q z = evaluation_in (plain q.enforce) r s q z

-- a run is turned back, or it comes to a result
pub data CourseOf (D : Domain) : Type 0 where
  rejected : (cause place : ℕ) → CourseOf D
  started : ResultOf D → CourseOf D

abbrev pub Course : Type 0
Course = CourseOf single

abbrev pub settled : {D : Domain} → Screening → (Unit {0} → ResultOf D) → CourseOf D
settled clear k = started (k tt)
settled (found c p) k = rejected c p

unfoldable pub course : List ℕ → Request → Sizes → Course
course s q z = settled (screen (run_conditions s q z)) λ _. evaluation q.runner s q z

-- ---- the answer

-- "an end carries a boolean or a number, a stop its cause and term; both carry calls, cells and posts made"; 02, W10: "ends and stops carry that count"
-- of held sums and differences "beside the calls"
pub data GroundOf (D : Domain) : Type 0 where
  ground_bool : D.Truth → GroundOf D
  ground_num : D.Number → GroundOf D

pub data OutcomeOf (D : Domain) : Type 0 where
  ended : GroundOf D → OutcomeOf D
  stopped : (cause term : ℕ) → OutcomeOf D

pub record RunCounts : Type 0 where
  pub calls : ℕ
  pub cells : ℕ
  pub posts : ℕ
  pub saturated : ℕ

pub data AnswerOf (D : Domain) : Type 0 where
  refused : (cause place : ℕ) → AnswerOf D
  ran : OutcomeOf D → RunCounts → AnswerOf D

-- the posts made: a run that is turned back made none
abbrev pub post_count : {D : Domain} → AnswerOf D → ℕ
post_count (refused c p) = 0
post_count (ran o k) = k.posts

-- 01's
abbrev pub Ground : Type 0
Ground = GroundOf single

abbrev pub Outcome : Type 0
Outcome = OutcomeOf single

abbrev pub Answer : Type 0
Answer = AnswerOf single

-- 18 also for "a root that gives a function"
abbrev pub outcome : {D : Domain} (root : ℕ) → ResultOf D → OutcomeOf D
outcome r (ends (bool b) u) = ended (ground_bool b)
outcome r (ends (num n) u) = ended (ground_num n)
outcome r (ends (closure rec ty body env) u) = stopped 18 r
outcome r (stops cause at u) = stopped cause at

abbrev pub left : {D : Domain} → ResultOf D → Budget
left (ends v u) = u
left (stops cause at u) = u

-- what was made is what was allowed less what is left
abbrev pub counts : Request → Sizes → Budget → RunCounts
counts q z (budget c d r l) = record { calls = q.calls - c; cells = z.cells / 8 - d; posts = length l.posts; saturated = l.saturated }

-- "After 1 to 16 … no count is told."
abbrev pub answer_of : {D : Domain} (root : ℕ) → Request → Sizes → CourseOf D → AnswerOf D
answer_of r q z (rejected c p) = refused c p
answer_of r q z (started x) = ran (outcome r x) (counts q z (left x))

-- ---- the buffers afterwards

abbrev pub in_order : Budget → List ℕ
in_order (budget c d r l) = reverse l.posts

-- the posts made, in order
abbrev pub course_posts : {D : Domain} → CourseOf D → List ℕ
course_posts (rejected c p) = []
course_posts (started x) = in_order (left x)

abbrev pub zeros : ℕ → List ℕ
zeros n = replicate n 0

abbrev pub cleared_frames : Runner → List ℕ → List ℕ
cleared_frames eager fs = fs
cleared_frames lazy fs = zeros (length fs)

-- "Posts made so far stand in the lent list and its other entries are untouched; cell and frame stores are all zero. After 1 to 16 every buffer is
-- untouched".
abbrev pub buffers_after : {D : Domain} → Runner → Buffers → CourseOf D → Buffers
buffers_after r b (rejected c p) = b
buffers_after r b (started x) = record {
  cells = zeros (length b.cells);
  posts = in_order (left x) ++ drop (length (in_order (left x))) b.posts;
  frames = cleared_frames r b.frames;
}

-- ---- the whole run

pub record AfterOf (D : Domain) : Type 0 where
  pub answer : AnswerOf D
  pub buffers : Buffers

abbrev pub After : Type 0
After = AfterOf single

-- what a course leaves
abbrev pub after_course : {D : Domain} → List ℕ → Request → Buffers → CourseOf D → AfterOf D
after_course s q b c = record { answer = answer_of (root s) q (sizes b) c; buffers = buffers_after q.runner b c }

unfoldable pub run : List ℕ → Request → Buffers → After
run s q b = after_course s q b (course s q (sizes b))
