-- Four lines, one unit: how a job is served. 02, W6; the queues and whose turn it is: `queues`, Queues.
use Rattle.std.specs.Prelude.{Bool, true, false, List, ◌++◌, ℕ, ◌+◌, take, drop}
use Rattle.interp.specs.Answers.{empty_stack_request}
use Rattle.program.specs.Limits.{max_cells}
use Rattle.semantics.specs.Runs.{Buffers, Answer, refused, After, post_count}
use Rattle.largest.specs.Largest.{is_largest, largest_run}
use Rattle.queues.specs.Queues.{Job, Lines, inside, job_sheet, Turn, nobody, serves, turn_of, after_turn}

-- "sees only what is left of it, which is nothing if the list lent is shorter than that place"
abbrev pub rest_from : (place : ℕ) → Buffers → Buffers
rest_from at b = record { cells = b.cells; posts = drop at b.posts; frames = b.frames }

-- "the next job writes from the place where the last one stopped"; the entries before it are untouched
abbrev pub behind : (place : ℕ) → Buffers → After → After
behind at b a = record {
  answer = a.answer;
  buffers = record { cells = a.buffers.cells; posts = take at b.posts ++ a.buffers.posts; frames = a.buffers.frames };
}

-- "one whole eager run each with …, 100 open calls and the largest cell store"; "15 is tested on what is left"
abbrev pub job_run : Job → (place : ℕ) (store : List ℕ) → Buffers → After
job_run j at store b = behind at b (largest_run (is_largest max_cells b.cells) (job_sheet j store) (empty_stack_request j.calls) (rest_from at b))

-- "A job refused when served, first by 28 if the store is shorter then"
abbrev pub job_after : (inside : Bool) → Job → (place : ℕ) (store : List ℕ) → Buffers → After
job_after true j at store b = job_run j at store b
job_after false j at store b = record { answer = refused 28 0; buffers = b }

-- what a serve answers, of which line (0 if of none), and what it leaves
pub data ServeAnswer : Type 0 where
  idle : ServeAnswer
  answered : Answer → ServeAnswer

pub record Served : Type 0 where
  pub answer : ServeAnswer
  pub line : ℕ
  pub state : Lines
  pub buffers : Buffers

abbrev pub served_as : Lines → (line : ℕ) (rest : List Job) → After → Served
served_as s l js a = record { answer = answered a.answer; line = l; state = after_turn s l js (s.place + post_count a.answer); buffers = a.buffers }

-- "with no job nothing changes and the answer says so"
abbrev pub serve_turn : Turn → Lines → (store : List ℕ) → Buffers → Served
serve_turn nobody s store b = record { answer = idle; line = 0; state = s; buffers = b }
serve_turn (serves l j js) s store b = served_as s l js (job_after (inside j store) j s.place store b)

unfoldable pub serve_of : Lines → (store : List ℕ) → Buffers → Served
serve_of s store b = serve_turn (turn_of s) s store b
