-- What the entries for a run with a record return and write: a status, nine numbers, the run's buffers, and the record in lent bytes. 02, W12.
use Rattle.std.specs.Prelude.{cond, List, ℕ, ltb, length}
use Rattle.semantics.specs.Runs.{Buffers}
use Rattle.semantics.specs.Recording.{Recorded}
use Rattle.replies.specs.Replies.{Reply, run_reply, written_nine, not_done, returned_reply}

pub record RecordLeft : Type 0 where
  pub reply : Reply
  pub buffers : Buffers
  pub noted : List ℕ

abbrev pub returned_record : (status : ℕ) (answer : List ℕ) → Buffers → (noted : List ℕ) → RecordLeft
returned_record status answer b t = record { reply = returned_reply status answer; buffers = b; noted = t }

-- "Its answer is as without a record, with the number of entries beside it": the ninth number is how many entries the record has
abbrev pub record_left : (answer : List ℕ) → Recorded → RecordLeft
record_left answer r = record { reply = written_nine (run_reply r.after.answer) r.entries answer; buffers = r.after.buffers; noted = r.noted }

-- A list `answer` shorter than nine: 3; nothing is done, and nothing is written anywhere.
abbrev pub record_call : (answer : List ℕ) → Buffers → (noted : List ℕ) → Recorded → RecordLeft
record_call answer b t r = cond (ltb (length answer) 9) (record { reply = not_done answer; buffers = b; noted = t }) (record_left answer r)
