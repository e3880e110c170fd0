-- What the C entries return and write: a status, and eight numbers in the caller's list `answer`, zero where something has no meaning.
use Rattle.std.specs.Prelude.{Bool, cond, not, ◌||◌, List, [], ◌∷◌, ◌++◌, ℕ, ◌+◌, ltb, eqb, length, drop}
use Rattle.program.specs.Bytes.{bit}
use Rattle.program.specs.Layout.{principals, types, terms}
use Rattle.program.specs.Screening.{Screening, clear, found}
use Rattle.program.specs.Decoding.{decoding}
use Rattle.typing.specs.Verdicts.{Verdict, accepted, rejected, verdict}
use Rattle.semantics.specs.Runs.{Buffers, ground_bool, ground_num, Outcome, ended, stopped, RunCounts, Answer, refused, ran, After}

-- 0: done, with an answer; 1: a run stopped; 2: refused; 3: nothing was done (not_done); 4: no line has a job (capi_lines alone)
pub record Reply : Type 0 where
  pub status : ℕ
  pub numbers : List ℕ

abbrev pub refusal : (cause place : ℕ) → Reply
refusal c p = record { status = 2; numbers = c ∷ p ∷ 0 ∷ 0 ∷ 0 ∷ 0 ∷ 0 ∷ 0 ∷ [] }

-- a readable sheet: its terms, principals and types
abbrev pub screened : List ℕ → Screening → Reply
screened s clear = record { status = 0; numbers = 0 ∷ 0 ∷ 0 ∷ terms s ∷ principals s ∷ types s ∷ 0 ∷ 0 ∷ [] }
screened s (found c p) = refusal c p

abbrev pub decode_reply : List ℕ → Reply
decode_reply s = screened s (decoding s)

-- an accepted sheet: its root's type, its terms and its needs
abbrev pub verdict_reply : Verdict → Reply
verdict_reply (accepted n τ N) = record { status = 0; numbers = 0 ∷ 0 ∷ τ ∷ n ∷ 0 ∷ 0 ∷ 0 ∷ N ∷ [] }
verdict_reply (rejected c p) = refusal c p

abbrev pub typecheck_reply : List ℕ → Reply
typecheck_reply s = verdict_reply (verdict s)

-- a boolean's number
-- an end: 0 and a boolean, or 1 and a number; a stop: its cause and term; both with calls, cells, posts and saturated results
abbrev pub finished : Outcome → RunCounts → Reply
finished (ended (ground_bool b)) k = record { status = 0; numbers = 0 ∷ 0 ∷ 0 ∷ bit b ∷ k.calls ∷ k.cells ∷ k.posts ∷ k.saturated ∷ [] }
finished (ended (ground_num n)) k = record { status = 0; numbers = 0 ∷ 0 ∷ 1 ∷ n ∷ k.calls ∷ k.cells ∷ k.posts ∷ k.saturated ∷ [] }
finished (stopped c t) k = record { status = 1; numbers = c ∷ t ∷ 0 ∷ 0 ∷ k.calls ∷ k.cells ∷ k.posts ∷ k.saturated ∷ [] }

abbrev pub run_reply : Answer → Reply
run_reply (refused c p) = refusal c p
run_reply (ran o k) = finished o k

-- ---- what a call leaves

-- the numbers of an answer
abbrev pub answer_numbers : ℕ
answer_numbers = 8

-- A list shorter than eight: 3; nothing is done, and nothing is written anywhere.
abbrev pub short : List ℕ → Bool
short answer = ltb (length answer) answer_numbers

-- The same where a list of an exact size is lent too, or the answer needs more room.
abbrev pub unfit : (size least : ℕ) (list answer : List ℕ) → Bool
unfit size least list answer = not (eqb (length list) size) || ltb (length answer) least

abbrev pub written : Reply → List ℕ → Reply
written r answer = record { status = r.status; numbers = r.numbers ++ drop answer_numbers answer }

-- with a ninth number behind the eight
abbrev pub written_nine : Reply → (ninth : ℕ) (answer : List ℕ) → Reply
written_nine r n answer = record { status = r.status; numbers = r.numbers ++ (n ∷ drop (answer_numbers + 1) answer) }

abbrev pub not_done : List ℕ → Reply
not_done answer = record { status = 3; numbers = answer }

-- the status and the list afterwards
abbrev pub replied : (answer : List ℕ) → Reply → Reply
replied answer r = cond (short answer) (not_done answer) (written r answer)

-- the same of a run, with its buffers
pub record Called : Type 0 where
  pub reply : Reply
  pub buffers : Buffers

abbrev pub called : (answer : List ℕ) → Buffers → After → Called
called answer b a = cond (short answer) (record { reply = not_done answer; buffers = b })
    (record { reply = written (run_reply a.answer) answer; buffers = a.buffers })

-- 0 passes over the checks, and any other number has them in force.
abbrev pub enforce_flag : (enforce : ℕ) → Bool
enforce_flag n = not (eqb n 0)

-- what a C function returned and left, in these words
abbrev pub returned_reply : (status : ℕ) (answer : List ℕ) → Reply
returned_reply status answer = record { status = status; numbers = answer }

abbrev pub returned_run : (status : ℕ) (answer : List ℕ) → Buffers → Called
returned_run status answer b = record { reply = returned_reply status answer; buffers = b }
