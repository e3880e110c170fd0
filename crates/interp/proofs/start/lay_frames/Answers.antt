-- Each turn lays one frame, from the outermost on, in front of what is left of the store (laid_next).
use native.Mathlib.Omega.{arith}
use Rattle.interp.proofs.StartLaws.{laid_next}
use Rattle.interp.proofs.start.lay_frames.Goals as goal

pub loop-i-preserved : goal.loop-i-preserved
loop-i-preserved c =
    laid_next _ c.args.start.now c.args.frames.now c.loop-i.i c.loop-i.invariant c.loop-i-test.true c.requires.whole.even
    (omega (arith, c.requires.whole.few, c.requires.room)) c.authority.ensures
