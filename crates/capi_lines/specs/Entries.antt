-- What the entries for the four lines return and write: a status, the numbers of the answer, the state, and for a serve the buffers. 02, W6.
use Rattle.std.specs.Prelude.{cond, List, [], ◌∷◌, ℕ, ◌+◌}
use Rattle.program.specs.Screening.{Screening, clear, found}
use Rattle.semantics.specs.Runs.{Buffers}
use Rattle.replies.specs.Replies.{Reply, refusal, run_reply, answer_numbers, unfit, written, written_nine, not_done, returned_reply}
use Rattle.queues.specs.Queues.{Job, Lines, Added, add_of}
use Rattle.lines.specs.Serving.{ServeAnswer, idle, answered, Served, serve_of}
use Rattle.capi_lines.specs.States.{state_numbers, state_read, state_written}

-- ---- a job is added

-- done, or 27 to 29
abbrev pub add_reply : Screening → Reply
add_reply clear = record { status = 0; numbers = 0 ∷ 0 ∷ 0 ∷ 0 ∷ 0 ∷ 0 ∷ 0 ∷ 0 ∷ [] }
add_reply (found c p) = refusal c p

-- what an add returned and left
pub record AddLeft : Type 0 where
  pub reply : Reply
  pub state : List ℕ

abbrev pub returned_add : (status : ℕ) (answer state : List ℕ) → AddLeft
returned_add status answer state = record { reply = returned_reply status answer; state = state }

-- the state is written anew, or, by a refusal, left
abbrev pub state_after : Screening → (before : List ℕ) → Lines → List ℕ
state_after clear before s = state_written s
state_after (found c p) before s = before

abbrev pub add_left : (state answer : List ℕ) → Added → AddLeft
add_left state answer r = record { reply = written (add_reply r.answer) answer; state = state_after r.answer state r.state }

-- A state of another length, or a short list `answer`: 3; nothing is done, and nothing is written anywhere.
abbrev pub lines_add : (state : List ℕ) (line : ℕ) → Job → (store answer : List ℕ) → AddLeft
lines_add state l j store answer = cond (unfit state_numbers answer_numbers state answer) (record { reply = not_done answer; state = state })
    (add_left state answer (add_of (state_read state) l j store))

-- ---- a job is served

-- the first eight numbers are those of a run; no line has a job: 4, and zeros
abbrev pub serve_reply : ServeAnswer → Reply
serve_reply idle = record { status = 4; numbers = 0 ∷ 0 ∷ 0 ∷ 0 ∷ 0 ∷ 0 ∷ 0 ∷ 0 ∷ [] }
serve_reply (answered a) = run_reply a

pub record ServeLeft : Type 0 where
  pub reply : Reply
  pub state : List ℕ
  pub buffers : Buffers

abbrev pub returned_serve : (status : ℕ) (answer state : List ℕ) → Buffers → ServeLeft
returned_serve status answer state b = record { reply = returned_reply status answer; state = state; buffers = b }

-- with no job the state is left
abbrev pub served_state : ServeAnswer → (before : List ℕ) → Lines → List ℕ
served_state idle before s = before
served_state (answered a) before s = state_written s

-- the ninth number is the line that was served
abbrev pub serve_left : (state answer : List ℕ) → Served → ServeLeft
serve_left state answer r = record {
  reply = written_nine (serve_reply r.answer) r.line answer;
  state = served_state r.answer state r.state;
  buffers = r.buffers;
}

-- the same, and the list `answer` has room for nine
abbrev pub lines_serve : (state store : List ℕ) → Buffers → (answer : List ℕ) → ServeLeft
lines_serve state store b answer = cond (unfit state_numbers (answer_numbers + 1) state answer) (record { reply = not_done answer; state = state; buffers = b })
    (serve_left state answer (serve_of (state_read state) store b))
