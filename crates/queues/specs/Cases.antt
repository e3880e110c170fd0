-- Adds by computation: line 1 has two jobs, line 3 one of no bytes; then what is refused. `lines`, Cases, serves these jobs.
use Rattle.std.specs.Prelude.{List, [], ◌∷◌, ◌≡◌, refl, ℕ}
use Rattle.program.specs.Screening.{clear, found, refuse_at, screen}
use Rattle.queues.specs.Queues.{Job, Lines, new_lines, add_of}
use Rattle.queues.specs.Answers.{job_of}

-- 01's sheet of 78 bytes, which posts 7 and ends in it
abbrev pub sheet : List ℕ
sheet =
    1 ∷ 0 ∷ 2 ∷ 0 ∷ 1
    ∷ 2 ∷ 0 ∷ 4 ∷ 0 ∷ 0 ∷ 0 ∷ 2
    ∷ 3 ∷ 0 ∷ 20
    ∷ 0 ∷ 0 ∷ 0 ∷ 0 ∷ 0 ∷ 0 ∷ 0 ∷ 0 ∷ 0 ∷ 0
    ∷ 1 ∷ 0 ∷ 0 ∷ 0 ∷ 0 ∷ 0 ∷ 0 ∷ 0 ∷ 0 ∷ 0
    ∷ 4 ∷ 0 ∷ 40
    ∷ 1 ∷ 0 ∷ 0 ∷ 7 ∷ 0 ∷ 0 ∷ 0 ∷ 0
    ∷ 14 ∷ 0 ∷ 0 ∷ 0 ∷ 0 ∷ 0 ∷ 0 ∷ 0
    ∷ 7 ∷ 1 ∷ 0 ∷ 1 ∷ 0 ∷ 0 ∷ 0 ∷ 0
    ∷ 8 ∷ 1 ∷ 0 ∷ 2 ∷ 0 ∷ 0 ∷ 0 ∷ 0
    ∷ 9 ∷ 0 ∷ 0 ∷ 3 ∷ 0 ∷ 0 ∷ 0 ∷ 0 ∷ []

-- a store with a byte before the sheet
abbrev pub store : List ℕ
store = 255 ∷ sheet

abbrev pub whole : Job
whole = job_of 1 78 0

-- no bytes, at the store's very end
abbrev pub empty : Job
empty = job_of 79 0 0

abbrev beyond : Job
beyond = job_of 2 78 0

abbrev pub waiting : Lines
waiting = record { queues = [] ∷ (whole ∷ whole ∷ []) ∷ [] ∷ (empty ∷ []) ∷ []; turn = 0; place = 0 }

pub adds : add_of (add_of (add_of new_lines 1 whole store).state 3 empty store).state 1 whole store ≡ record { answer = clear; state = waiting }
unfolding add_of screen refuse_at
adds = refl

-- "tested in that order"
pub no_line : (add_of waiting 4 beyond store).answer ≡ found 27 0
unfolding add_of screen refuse_at
no_line = refl

pub outside : (add_of waiting 0 beyond store).answer ≡ found 28 0
unfolding add_of screen refuse_at
outside = refl

-- "tested in that order": a part outside the store for a line whose queue is full is 28
abbrev full : Lines
full = record {
  queues = (whole ∷ whole ∷ whole ∷ whole ∷ whole ∷ whole ∷ whole ∷ whole ∷ []) ∷ [] ∷ [] ∷ [] ∷ [];
  turn = 0;
  place = 0;
}

pub outside_first : ((add_of full 0 beyond store).answer ≡ found 28 0) × ((add_of full 0 whole store).answer ≡ found 29 0)
unfolding add_of screen refuse_at
outside_first = (refl, refl)
