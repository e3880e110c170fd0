-- A value other than 1 leaves all as it was. With 1 the block is the definition's after the run that `run_largest` gives; the test of the lengths and the
-- pair are the definition's by computation. The calls of that run are few, as `of_run` requires (few_calls).
use Rattle.interp.specs.Answers.{buffers_of}
use mathlib.Core.List.{[]}
use Rattle.semantics.specs.Runs.{are_largest}
use Rattle.registers.proofs.RunLaws.{few_calls}
use Rattle.registers.proofs.command.Goals as goal

pub of_run-requires : goal.of_run-requires
of_run-requires c =
    few_calls c.args.sheet.now c.from-calls.result c.args.cells.now c.args.posts.now
    (are_largest (buffers_of c.args.cells.now c.args.posts.now [])) c.run_largest-r.result _ _
    c.run_largest-r.ensures
