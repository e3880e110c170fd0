-- The queues as 02 speaks of them, however the struct was made, and 02's number for each case of an add's answer.
use Rattle.std.specs.Prelude.{List, [], map, ℕ, ◌%◌, take, Result, Ok, Err}
use Rattle.program.specs.Screening.{Screening, clear, found}
use Rattle.queues.specs.Queues as queues
use Rattle.queues.specs.Queues.{Lines as LinesOf, max_lines}
use Rattle.queues.specs.declared.state.Job.{Job}
use Rattle.queues.specs.declared.state.Queue.{Queue}
use Rattle.queues.specs.declared.state.Lines.{Lines}
use Rattle.queues.specs.declared.state.AddRefusal.{AddRefusal}
use Rattle.queues.specs.declared.state.AddRefusal.TheVariants.{NoLine, Outside, Full}

abbrev pub job_of : (offset length calls : ℕ) → queues.Job
job_of offset length calls = record { offset = offset; length = length; calls = calls }

abbrev pub no_job : queues.Job
no_job = job_of 0 0 0

abbrev pub job_model : Job → queues.Job
job_model j = job_of j.offset j.length j.calls

-- the queue of a line that is not there
abbrev pub no_queue : Queue
no_queue = record { jobs = []; count = 0 }

-- the first `count` of eight places, so that a count above 8 is read as 8
abbrev pub queue_model : Queue → List queues.Job
queue_model q = map job_model (take q.count q.jobs)

-- a turn above 3 is read modulo 4
abbrev pub lines_model : Lines → LinesOf
lines_model q = record { queues = map queue_model q.queues; turn = q.turn % max_lines; place = q.place }

-- "A line other than 0 to 3 is 27, a part outside the store 28 and a full queue 29"; no place is named, so it is 0
abbrev pub addition_model : Result (Unit {0}) AddRefusal → Screening
addition_model (Ok u) = clear
addition_model (Err NoLine) = found 27 0
addition_model (Err Outside) = found 28 0
addition_model (Err Full) = found 29 0

-- with what the lines then are
abbrev pub added_model : Result (Unit {0}) AddRefusal → Lines → queues.Added
added_model r q = record { answer = addition_model r; state = lines_model q }
