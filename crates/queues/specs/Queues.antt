-- Four lines, one unit: their queues, what is added to them, and whose turn it is. 02, W6; how a job is served: `lines`, Serving.
use Rattle.std.specs.Prelude.{Bool, List, [], ◌∷◌, ◌++◌, ℕ, zero, suc, ◌+◌, ◌%◌, leb, ltb, length, get_or, set, take, drop}
use Rattle.program.specs.Screening.{Condition, Screening, clear, found, screen, unless}

-- "Four lines", each with "a queue of up to eight jobs"
abbrev pub max_lines : ℕ
max_lines = 4

abbrev pub max_jobs : ℕ
max_jobs = 8

-- "a job is a part of one lent store of sheets, by offset and length, with a calls allowance"
pub record Job : Type 0 where
  pub offset : ℕ
  pub length : ℕ
  pub calls : ℕ

-- The queues of lines 0 to 3, each with its oldest job first; the line whose turn it is; the place in the list of posts where the last job stopped.
pub record Lines : Type 0 where
  pub queues : List (List Job)
  pub turn : ℕ
  pub place : ℕ

-- "The queues start empty", "from line 0"
abbrev pub new_lines : Lines
new_lines = record { queues = [] ∷ [] ∷ [] ∷ [] ∷ []; turn = 0; place = 0 }

abbrev pub queue_at : Lines → (line : ℕ) → List Job
queue_at s l = get_or s.queues l []

-- its part of the store
abbrev pub job_sheet : Job → (store : List ℕ) → List ℕ
job_sheet j store = take j.length (drop j.offset store)

-- whether a job's part lies in the store; an empty part may lie at its very end
abbrev pub inside : Job → (store : List ℕ) → Bool
inside j store = leb (j.offset + j.length) (length store)

-- ---- a job is added

-- "A line other than 0 to 3 is 27, a part outside the store 28 and a full queue 29, tested in that order"
abbrev pub add_conditions : Lines → (line : ℕ) → Job → (store : List ℕ) → List Condition
add_conditions s l j store = unless 27 (ltb l max_lines) ∷ unless 28 (inside j store) ∷ unless 29 (ltb (length (queue_at s l)) max_jobs) ∷ []

-- what an add answers, `clear` if it is done, and what it leaves
pub record Added : Type 0 where
  pub answer : Screening
  pub state : Lines

abbrev pub enqueued : Lines → (line : ℕ) → Job → Lines
enqueued s l j = record { queues = set s.queues l (queue_at s l ++ (j ∷ [])); turn = s.turn; place = s.place }

-- "and the queues don't change"
abbrev pub added_to : Screening → Lines → (line : ℕ) → Job → Added
added_to clear s l j = record { answer = clear; state = enqueued s l j }
added_to (found c p) s l j = record { answer = found c p; state = s }

unfoldable pub add_of : Lines → (line : ℕ) → Job → (store : List ℕ) → Added
add_of s l j store = added_to (screen (add_conditions s l j store)) s l j

-- ---- whose turn it is

-- no line has a job; or this line is served, with this job, and these are left
pub data Turn : Type 0 where
  nobody : Turn
  serves : (line : ℕ) → Job → (rest : List Job) → Turn

-- "empty lines skipped, oldest job first"
abbrev pub turn_at : (line : ℕ) → List Job → (Unit {0} → Turn) → Turn
turn_at l [] later = later tt
turn_at l (j ∷ js) later = serves l j js

-- "Lines are served in turn"
abbrev pub next_line : (line : ℕ) → ℕ
next_line l = (l + 1) % max_lines

-- the first of so many lines, from this one on, that has a job
unfoldable pub turn_from : (lines : ℕ) → Lines → (line : ℕ) → Turn
turn_from zero s l = nobody
turn_from (suc n) s l = turn_at l (queue_at s l) λ _. turn_from n s (next_line l)

abbrev pub turn_of : Lines → Turn
turn_of s = turn_from max_lines s s.turn

-- "uses up its turn", refused or not
abbrev pub after_turn : Lines → (line : ℕ) (rest : List Job) (place : ℕ) → Lines
after_turn s l js at = record { queues = set s.queues l js; turn = next_line l; place = at }
