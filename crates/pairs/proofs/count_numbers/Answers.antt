-- n is the count below t, which a number term adds to (counted_yes).
use native.Mathlib.Omega.{arith}
use mathlib.Core.Path.{sym, ◌∙◌}
use Rattle.pairs.proofs.PairLaws.{counted_yes, counted_no, counted_most}
use Rattle.pairs.proofs.count_numbers.Goals as goal
use Rattle.pairs.proofs.count_numbers.Goals.{then-is_number, else-is_number}

pub overflow_add-n : goal.overflow_add-n
overflow_add-n c =
    omega (
      arith,
      c.loop-t.invariant.count_is,
      counted_most c.args.s.now c.loop-t.t,
      c.loop-t-test.true,
      c.requires.counts.terms_are,
      c.requires.well_formed.terms_most,
    )

pub loop-t-preserved : goal.loop-t-preserved
loop-t-preserved c =
    record {
      below = omega arith;
      count_is = elim c.if-is_number.branch [
        | then-is_number w ↦ counted_yes c.args.s.now c.loop-t.t c.loop-t.invariant.count_is (sym w.if-is_number.true ∙ c.is_number.ensures) w.n-is
        | else-is_number w ↦ counted_no c.args.s.now c.loop-t.t c.loop-t.invariant.count_is (sym w.if-is_number.false ∙ c.is_number.ensures) w.n-is
      ];
    }
