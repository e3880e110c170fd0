-- Each of the three tests decides, in the order of the definition.
use Rattle.pairs.proofs.PairLaws.{other_version, other_count, all_tested}
use mathlib.Core.Path.{sym, ◌∙◌}
use Rattle.pairs.proofs.pairs_ok.Goals as goal

pub returns-then-be16-ne1 : goal.returns-then-be16-ne1
returns-then-be16-ne1 c = other_version c.args.s.now c.args.pairs.now (λ e. c.if-be16-ne1.true (c.be16.ensures ∙ e))

pub returns-then-pairs-n : goal.returns-then-pairs-n
returns-then-pairs-n c =
    other_count c.args.s.now c.args.pairs.now (sym c.be16.ensures ∙ c.if-be16-ne1.false)
    c.count_numbers-n.ensures c.if-pairs-n.true

pub returns : goal.returns
returns c =
    all_tested c.args.s.now c.args.pairs.now (sym c.be16.ensures ∙ c.if-be16-ne1.false)
    c.count_numbers-n.ensures c.if-pairs-n.false c.ordered.ensures
