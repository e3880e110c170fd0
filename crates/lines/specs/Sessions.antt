-- Sequences of adds and serves, with any stores and buffers lent for each of them, and what they add to a line and serve of it. 02, W6: "only these
-- entries change them", "whatever the other lines queue".
use Rattle.std.specs.Prelude.{cond, List, [], ◌∷◌, ◌++◌, ◌≡◌, ℕ, suc, ◌<◌, ◌≤◌, eqb, length}
use Rattle.program.specs.Screening.{Screening, clear, found}
use Rattle.semantics.specs.Runs.{Buffers}
use Rattle.queues.specs.Queues.{max_lines, max_jobs, Job, Lines, queue_at, add_of, Turn, nobody, serves, turn_of}
use Rattle.lines.specs.Serving.{serve_of}

pub data Operation : Type 0 where
  add : (line : ℕ) → Job → (store : List ℕ) → Operation
  serve : (store : List ℕ) → Buffers → Operation

abbrev pub stepped : Operation → Lines → Lines
stepped (add l j store) s = (add_of s l j store).state
stepped (serve store b) s = (serve_of s store b).state

abbrev pub session : List Operation → Lines → Lines
session [] s = s
session (o ∷ os) s = session os (stepped o s)

-- how many of them are serves
abbrev pub serves_in : List Operation → ℕ
serves_in [] = 0
serves_in (add l j store ∷ os) = serves_in os
serves_in (serve store b ∷ os) = suc (serves_in os)

-- The job that an operation adds to a line, and the one that has its turn there, refused or not: none or one.
abbrev pub only : (line other : ℕ) → Job → List Job
only l k j = cond (eqb k l) (j ∷ []) []

abbrev pub added_if : Screening → (line other : ℕ) → Job → List Job
added_if clear l k j = only l k j
added_if (found c p) l k j = []

abbrev pub added_by : (line : ℕ) → Operation → Lines → List Job
added_by l (add k j store) s = added_if (add_of s k j store).answer l k j
added_by l (serve store b) s = []

abbrev pub in_turn : (line : ℕ) → Turn → List Job
in_turn l nobody = []
in_turn l (serves k j js) = only l k j

abbrev pub served_by : (line : ℕ) → Operation → Lines → List Job
served_by l (add k j store) s = []
served_by l (serve store b) s = in_turn l (turn_of s)

-- the same over a sequence, in order
abbrev pub added_in : (line : ℕ) → List Operation → Lines → List Job
added_in l [] s = []
added_in l (o ∷ os) s = added_by l o s ++ added_in l os (stepped o s)

abbrev pub served_in : (line : ℕ) → List Operation → Lines → List Job
served_in l [] s = []
served_in l (o ∷ os) s = served_by l o s ++ served_in l os (stepped o s)

-- four queues of at most eight jobs, and a turn that is one of the lines: so at first, and after every add and serve (Theorems: start_sound, step_sound)
pub record Sound (s : Lines) : Type 0 where
  pub four : length s.queues ≡ max_lines
  pub turn_below : s.turn < max_lines
  pub few : (l : ℕ) → length (queue_at s l) ≤ max_jobs
