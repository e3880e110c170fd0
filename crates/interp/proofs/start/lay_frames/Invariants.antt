-- Each turn lays one frame, from the outermost on, in front of what is left of the store.
use Prim.Native.Nat.{◌*◌}
use Rattle.program.specs.Records.{authority_record}
use Rattle.interp.proofs.StartLaws.{LaidFrom}
use Rattle.interp.proofs.start.lay_frames.Given as goal

abbrev pub invariant-loop-i : goal.invariant-loop-i
invariant-loop-i l = LaidFrom (authority_record l.s) l.start l.initial.frames l.frames (2 * l.i)
