-- `after_turn` leaves the state after a line's turn (turn_over).
use Rattle.queues.proofs.LineLaws.{turn_over}
use Rattle.queues.proofs.state.Lines.after_turn.Goals as goal

pub returns : goal.returns
returns c = turn_over c.args.self.now c.args.line c.args.place c.args.rest
