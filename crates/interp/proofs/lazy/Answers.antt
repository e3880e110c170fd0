-- The run walks the start stack's frames, which are laid into the store first and cleared at the end.
use native.Mathlib.Omega.{arith}
use mathlib.Core.Path.{refl}
use borrow.Author.Tests.{eqb-true}
use lib.ListN.{length}
use Rattle.program.specs.Limits.{frame_numbers}
use Rattle.interp.proofs.RunLaws.{lazy_after}
use Rattle.interp.proofs.lazy.Goals as goal

pub lay_frames-requires : goal.lay_frames-requires
lay_frames-requires c = record { whole = c.requires.whole; room = omega (arith, eqb-true (length c.args.frames.now) frame_numbers c.requires.frames_right) }

pub evaluate-r-requires : goal.evaluate-r-requires
evaluate-r-requires c = record { well_formed = c.requires.well_formed; counts = c.requires.counts }

pub returns : goal.returns
returns c =
    lazy_after c.args.s.now c.args.start.now c.args.enforce c.args.cells.now c.args.posts.now
    c.args.noted.now c.args.calls c.args.depth c.args.frames.now c.requires c.lay_frames.ensures refl
    c.evaluate-r.ensures c.clear_frames.ensures
