-- `after_run` stores into the command, the status, 2 and 6 to 11 alone. A list of 16 is the list of its elements, and with these stores it is the definition's
-- list (run_stored).
use Rattle.std.proofs.Common.{arith}
use Rattle.blocks.specs.Internal.{registers_model}
use Rattle.blocks.proofs.BlockLaws.{run_stored}
use Rattle.blocks.proofs.update.after_run.Goals as goal

pub returns : goal.returns
returns c =
    run_stored c.args.b.bytes (registers_model c.args.t) (omega arith)
    c.with_flag.ensures c.stored_pair.ensures c.stored_pair-2.ensures c.stored_pair-3.ensures
