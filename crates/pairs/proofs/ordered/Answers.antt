-- The first i pairs are in order; one that is not decides (ordered_not).
use mathlib.Core.Path.{sym}
use Rattle.pairs.proofs.PairLaws.{ordered_not}
use Rattle.pairs.proofs.ordered.Goals as goal

pub returns-then-pairs-i : goal.returns-then-pairs-i
returns-then-pairs-i c = sym (ordered_not c.args.pairs.now c.loop-i.i c.args.count c.loop-i-test.true c.if-pairs-i.true)
