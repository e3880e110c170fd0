-- 35 is told where the pairs are not right (pairs_refused), and else the run is as `evaluate` gives it.
use mathlib.Core.Path.{sym, ◌∙◌}
use Rattle.ranges.proofs.IntervalLaws.{pairs_refused}
use Rattle.ranges.proofs.run_admitted.Goals as goal

pub pairs_ok-requires : goal.pairs_ok-requires
pairs_ok-requires c = record { well_formed = c.requires.well_formed; counts = c.requires.counts }

pub returns-then-not-pairs_ok : goal.returns-then-not-pairs_ok
returns-then-not-pairs_ok c =
    pairs_refused c.args.s.now c.args.pairs.now c.args.start.now c.args.enforce c.args.cells.now
    c.args.posts.now c.args.calls c.args.depth c.requires (sym c.pairs_ok.ensures ∙ c.if-not-pairs_ok.true)

pub evaluate-requires : goal.evaluate-requires
evaluate-requires c = record { cleared = c.requires; pairs_ok_holds = sym c.pairs_ok.ensures ∙ c.if-not-pairs_ok.false }
