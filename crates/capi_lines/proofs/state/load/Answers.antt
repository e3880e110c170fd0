-- `load` reads the four queues, the turn and the place (state_read_lem).
use Rattle.capi_lines.proofs.StateLaws.{state_read_lem}
use Rattle.capi_lines.proofs.state.load.Goals as goal

pub returns : goal.returns
returns c =
    state_read_lem c.args.state.now c.load_queue.result c.load_queue-2.result c.load_queue-3.result
    c.load_queue-4.result c.load_queue.ensures c.load_queue-2.ensures c.load_queue-3.ensures
    c.load_queue-4.ensures
