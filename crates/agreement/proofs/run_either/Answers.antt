-- `run_either` answers and leaves what the definition's run does by the runner asked for (by_either). For the lazy one that is the contract of `run_lazy`.
-- The contract of `run_eager` is about a run without a frame store: an eager run with one takes the same course and leaves it as it is (by_eager).
use mathlib.Core.Bool.{true, false}
use Rattle.agreement.proofs.AgreementLaws.{by_eager, by_either}
use Rattle.agreement.proofs.run_either.Goals as goal

pub returns-then-lazy : goal.returns-then-lazy
returns-then-lazy c =
    by_either c.args.sheet.now c.args.start.now c.args.enforce c.args.calls c.args.depth c.args.cells.now
    c.args.posts.now c.args.frames.now c.run_lazy.result _ _ _ true c.if-lazy.true c.run_lazy.ensures

pub returns : goal.returns
returns c =
    by_either c.args.sheet.now c.args.start.now c.args.enforce c.args.calls c.args.depth c.args.cells.now
    c.args.posts.now c.args.frames.now c.run_eager.result _ _ _ false c.if-lazy.false
    (by_eager c.args.sheet.now c.args.start.now c.args.enforce c.args.calls c.args.depth c.args.cells.now
    c.args.posts.now c.args.frames.now c.run_eager.result c.run_eager.ensures)
