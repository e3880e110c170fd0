-- Each turn adds one frame, from the outermost on: the set is what the frames from frame i on grant. A frame grants, of its principal's set, what it
-- enables or the frames behind it grant.
use mathlib.Core.Path.{◌≡◌}
use Prim.Native.Nat.{◌*◌}
use lib.ListN.{drop}
use Rattle.program.specs.Records.{authority_record}
use Rattle.semantics.specs.Access.{privs}
use Rattle.semantics.specs.Runs.{stack}
use Rattle.interp.proofs.start.start_grants.Given as goal

abbrev pub invariant-loop-i : goal.invariant-loop-i
invariant-loop-i l = l.set ≡ privs (authority_record l.s) (stack (drop (2 * l.i) l.start))
