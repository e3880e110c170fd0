-- What the entry for a run over ranges returns and writes: a status, eight numbers, and the run's buffers. 02, W14.
use Rattle.std.specs.Prelude.{Bool, true, false, cond, List, [], ◌∷◌, ℕ}
use Rattle.std.proofs.Math.Option.{Option, none, some}
use Rattle.semantics.specs.Runs.{Buffers, ground_bool, ground_num, OutcomeOf, ended, stopped, RunCounts, AnswerOf, refused, ran, AfterOf}
use Rattle.intervals.specs.Intervals.{interval_entry, intervals}
use Rattle.replies.specs.Replies.{Reply, refusal, short, written, not_done, Called}

-- "yes, no or undecided"
abbrev pub truth_number : Option Bool → ℕ
truth_number (some false) = 0
truth_number (some true) = 1
truth_number none = 2

-- an end: 0 and a truth value, or 1 and a range, told as it is posted, lowest × 65,536 + highest; a stop: its cause and term; both with calls, cells and posts.
-- "Held results aren't counted."
abbrev pub interval_finished : OutcomeOf intervals → RunCounts → Reply
interval_finished (ended (ground_bool t)) k = record { status = 0; numbers = 0 ∷ 0 ∷ 0 ∷ truth_number t ∷ k.calls ∷ k.cells ∷ k.posts ∷ 0 ∷ [] }
interval_finished (ended (ground_num i)) k = record { status = 0; numbers = 0 ∷ 0 ∷ 1 ∷ interval_entry i ∷ k.calls ∷ k.cells ∷ k.posts ∷ 0 ∷ [] }
interval_finished (stopped c t) k = record { status = 1; numbers = c ∷ t ∷ 0 ∷ 0 ∷ k.calls ∷ k.cells ∷ k.posts ∷ 0 ∷ [] }

abbrev pub interval_reply : AnswerOf intervals → Reply
interval_reply (refused c p) = refusal c p
interval_reply (ran o k) = interval_finished o k

abbrev pub interval_left : (answer : List ℕ) → AfterOf intervals → Called
interval_left answer a = record { reply = written (interval_reply a.answer) answer; buffers = a.buffers }

-- A list `answer` shorter than eight: 3; nothing is done, and nothing is written anywhere.
abbrev pub interval_call : (answer : List ℕ) → Buffers → AfterOf intervals → Called
interval_call answer b a = cond (short answer) (record { reply = not_done answer; buffers = b }) (interval_left answer a)
