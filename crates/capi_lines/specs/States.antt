-- The lines' state as a C caller lends it: a list of 102 numbers of 64 bits, all zero at first.
-- Number 0 is the line whose turn it is, 1 the place in the list of posts, 2 to 5 say how many jobs wait on each line, and then each line has 24: three for
-- each of eight jobs, the oldest first, its offset, its length and its calls allowance.
use Rattle.std.specs.Prelude.{cond, List, [], ◌∷◌, ℕ, zero, suc, ◌+◌, ◌-◌, ◌*◌, ◌/◌, ◌%◌, min, ltb, length, get_or, take}
use Rattle.queues.specs.Queues.{max_lines, Job, Lines, queue_at}
use Rattle.queues.specs.Answers.{no_job}

abbrev pub state_numbers : ℕ
state_numbers = 102

-- ---- what a list is read as, whoever wrote it

-- A calls allowance is a number of 32 bits. A larger one is read as the largest of these, which is too large for a run too (16).
abbrev pub max_allowance : ℕ
max_allowance = 4294967295

-- where the numbers of a line's job begin
abbrev pub job_at : (line job : ℕ) → ℕ
job_at l k = 6 + 24 * l + 3 * k

abbrev pub job_read : List ℕ → (at : ℕ) → Job
job_read n at = record { offset = get_or n at 0; length = get_or n (at + 1) 0; calls = min (get_or n (at + 2) 0) max_allowance }

abbrev pub places_read : List ℕ → (line : ℕ) → List Job
places_read n l =
    job_read n (job_at l 0) ∷ job_read n (job_at l 1) ∷ job_read n (job_at l 2) ∷ job_read n (job_at l 3)
    ∷ job_read n (job_at l 4) ∷ job_read n (job_at l 5) ∷ job_read n (job_at l 6) ∷ job_read n (job_at l 7) ∷ []

-- a count above 8 is read as 8
abbrev pub queue_read : List ℕ → (line : ℕ) → List Job
queue_read n l = take (get_or n (2 + l) 0) (places_read n l)

-- a turn above 3 is read modulo 4
unfoldable pub state_read : List ℕ → Lines
state_read n = record {
  queues = queue_read n 0 ∷ queue_read n 1 ∷ queue_read n 2 ∷ queue_read n 3 ∷ [];
  turn = get_or n 0 0 % max_lines;
  place = get_or n 1 0;
}

-- ---- what is written of a state

-- a part of a job: offset, length, allowance
abbrev pub job_part : (part : ℕ) → Job → ℕ
job_part zero j = j.offset
job_part (suc zero) j = j.length
job_part (suc (suc n)) j = j.calls

-- the numbers of the jobs, from the first line's on; zero where no job waits: number i of the 96 is of line i / 24, job i % 24 / 3, part i % 3
abbrev pub job_number : Lines → (i : ℕ) → ℕ
job_number s i = job_part (i % 3) (get_or (queue_at s (i / 24)) (i % 24 / 3) no_job)

abbrev pub number_at : Lines → (i : ℕ) → ℕ
number_at s zero = s.turn
number_at s (suc zero) = s.place
number_at s (suc (suc i)) = cond (ltb i max_lines) (length (queue_at s i)) (job_number s (i - 4))

abbrev pub tabulate : (ℕ → ℕ) → (i count : ℕ) → List ℕ
tabulate f i zero = []
tabulate f i (suc n) = f i ∷ tabulate f (suc i) n

unfoldable pub state_written : Lines → List ℕ
state_written s = tabulate (number_at s) 0 state_numbers
