-- The run holds the start stack's grants and, above the root, the set of principal 0, as the meaning does (eager_after).
use mathlib.Core.List.{[], ◌∷◌}
use Rattle.interp.proofs.RunLaws.{eager_after}
use Rattle.interp.proofs.eager.Goals as goal

pub start_access-access-requires : goal.start_access-access-requires
start_access-access-requires c = c.requires.whole

pub evaluate-requires : goal.evaluate-requires
evaluate-requires c = record { well_formed = c.requires.well_formed; counts = c.requires.counts }

pub returns : goal.returns
returns c =
    eager_after c.args.s.now c.args.start.now c.args.enforce c.args.cells.now c.args.posts.now
    c.args.noted.now c.args.calls c.args.depth (0 ∷ []) c.requires c.start_access-access.ensures
    c.evaluate.ensures
