-- The queue of a line, from the struct to the state that it stands for. For the proofs of this crate and of those above; nothing here has to be believed.
use Rattle.std.specs.Prelude.{◌≡◌, ℕ, ◌<◌, length, get_or}
use Rattle.std.proofs.Common.{ap, ◌∙◌}
use Rattle.std.proofs.Math.ListN.{get_or-map}
use Rattle.std.proofs.lemmas.List.{get_or_default}
use Rattle.queues.specs.Queues.{queue_at}
use Rattle.queues.specs.Answers.{no_queue, queue_model, lines_model}
use Rattle.queues.specs.declared.state.Queue.{Queue}
use Rattle.queues.specs.declared.state.Lines.{Lines}

pub queue_is : (q : Lines) (l : ℕ) → queue_at (lines_model q) l ≡ queue_model (get_or q.queues l no_queue)
queue_is q l = get_or-map queue_model q.queues l no_queue

-- of a line that is there, whatever stands for one that is not
pub queue_read_is : (q : Lines) (l : ℕ) (none : Queue) → l < length q.queues → queue_at (lines_model q) l ≡ queue_model (get_or q.queues l none)
queue_read_is q l none h = queue_is q l ∙ ap queue_model (get_or_default q.queues l no_queue none h)
