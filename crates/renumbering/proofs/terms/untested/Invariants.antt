-- No term below t is a test (untested_more), and a test settles it (tested).
use mathlib.Core.Bool.{true}
use mathlib.Core.Path.{◌≡◌}
use Rattle.erasure.specs.Lean.{untested}
use Rattle.renumbering.proofs.terms.untested.Given as goal

abbrev pub invariant-loop-t : goal.invariant-loop-t
invariant-loop-t l = untested l.s l.t ≡ true
