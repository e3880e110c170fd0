-- Each turn passes one frame, from the innermost on, so that the rest decides as the whole. What falls is d, the numbers that are left, by two each turn,
-- since a frame has two.
use Rattle.access.proofs.AccessLaws.{WalkedTo}
use Rattle.access.proofs.frames_grant.Given as goal

abbrev pub invariant-loop-d : goal.invariant-loop-d
invariant-loop-d l = WalkedTo l.frames l.used l.p l.d

abbrev pub decreases-loop-d : goal.decreases-loop-d
decreases-loop-d l = l.d
