-- No term below t is a test (untested_more), and a test settles it (tested).
use mathlib.Core.Path.{sym, ◌∙◌}
use Prim.Native.Nat.{◌<◌}
use Rattle.program.specs.Layout.{terms}
use Rattle.renumbering.proofs.TableLaws.{within}
use Rattle.renumbering.proofs.TermLaws.{kind_read, untested_none, untested_more, tested}
use Rattle.renumbering.proofs.terms.untested.Goals as goal

pub loop-t-init : goal.loop-t-init
loop-t-init c = untested_none c.args.s.now

pub returns-then-x-eq10 : goal.returns-then-x-eq10
returns-then-x-eq10 c =
    let l : c.loop-t.t < terms c.args.s.now = within c.loop-t-test.true c.requires.counts.terms_are in sym
    (tested c.args.s.now c.loop-t.t (terms c.args.s.now)
    (sym (kind_read c.requires l c.term-x.ensures) ∙ c.if-x-eq10.true) l)

pub loop-t-preserved : goal.loop-t-preserved
loop-t-preserved c =
    let l : c.loop-t.t < terms c.args.s.now = within c.loop-t-test.true c.requires.counts.terms_are in
    untested_more c.args.s.now c.loop-t.t (λ q. c.if-x-eq10.false (kind_read c.requires l c.term-x.ensures ∙ q)) c.loop-t.invariant
