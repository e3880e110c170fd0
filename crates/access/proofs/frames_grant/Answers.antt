-- Each turn passes one frame, from the innermost on, so that the rest decides as the whole. What falls is d, the numbers that are left, by two each turn,
-- since a frame has two.
use Rattle.std.proofs.Common.{◌∙◌, arith}
use Rattle.access.proofs.AccessLaws.{walk_no, walk_yes, walk_next, walk_done, frames_short, frames_whole}
use Rattle.access.proofs.frames_grant.Goals as goal

pub returns-then-frames-d : goal.returns-then-frames-d
returns-then-frames-d c = frames_short _ _ _ c.if-frames-d.true

pub returns-then-not-contains : goal.returns-then-not-contains
returns-then-not-contains c =
    walk_no _ _ _ c.loop-d-test.true c.contains.ensures
    c.if-not-contains.true ∙ c.loop-d.invariant.rest_is ∙ frames_whole _ _ _ c.if-frames-d.false

pub returns-then-contains : goal.returns-then-contains
returns-then-contains c =
    walk_yes _ _ _ c.loop-d-test.true c.contains.ensures c.if-not-contains.false
    c.contains-in-loop-d.ensures c.if-contains.true ∙ c.loop-d.invariant.rest_is ∙ frames_whole _ _ _ c.if-frames-d.false

pub loop-d-preserved : goal.loop-d-preserved
loop-d-preserved c =
    record {
      below = omega arith;
      rest_is = walk_next _ _ _ c.loop-d-test.true c.contains.ensures c.if-not-contains.false
          c.contains-in-loop-d.ensures c.if-contains.false ∙ c.loop-d.invariant.rest_is;
    }

pub returns : goal.returns
returns c = walk_done _ _ _ c.loop-d-test.false ∙ c.loop-d.invariant.rest_is ∙ frames_whole _ _ _ c.if-frames-d.false
