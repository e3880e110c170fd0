-- Each turn passes one frame, from the innermost on: the principals of the first i frames are known, so that the others decide as the whole stack.
use mathlib.Core.Path.{◌≡◌, sym, ap, ◌∙◌}
use Prim.Native.Nat.{ℕ, ◌+◌, ◌*◌}
use native.Mathlib.Omega.{arith}
use lib.ListN.{drop}
use Rattle.semantics.specs.Runs.{stack, principals_known}
use Rattle.interp.proofs.StartLaws.{unknown_here, known_here}
use Rattle.interp.proofs.start.principals_known.Goals as goal

pub returns-then-count-start : goal.returns-then-count-start
returns-then-count-start c =
    unknown_here c.args.count c.args.start.now (2 * c.loop-i.i) (omega (arith, c.requires.even, c.loop-i-test.true)) c.if-count-start.true
    ∙ sym c.loop-i.invariant

pub loop-i-preserved : goal.loop-i-preserved
loop-i-preserved c =
    let on : 2 * c.loop-i.i + 2 ≡ 2 * (c.loop-i.i + 1) = omega arith in
    c.loop-i.invariant
    ∙ known_here c.args.count c.args.start.now (2 * c.loop-i.i) (omega (arith, c.requires.even, c.loop-i-test.true)) c.if-count-start.false
    ∙ ap (λ (n : ℕ). principals_known c.args.count (stack (drop n c.args.start.now))) on
