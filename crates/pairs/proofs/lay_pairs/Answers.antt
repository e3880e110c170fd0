-- The number terms below t have their pairs, of which n are laid (laid_pair), and the other words are as they were (laid_other).
use native.Mathlib.Omega.{arith}
use mathlib.Core.Path.{sym, ◌∙◌}
use Prim.Native.Nat.{◌*◌, ◌+◌}
use Rattle.program.specs.Layout.{terms as term_count}
use Rattle.intervals.proofs.Laws.Pairs.{counted_below}
use Rattle.pairs.proofs.PairLaws.{counted_yes, counted_no, counted_most, laid_other, laid_pair}
use Rattle.pairs.proofs.lay_pairs.Goals as goal
use Rattle.pairs.proofs.lay_pairs.Goals.{then-is_number, else-is_number}

pub overflow_mul-lowest : goal.overflow_mul-lowest
overflow_mul-lowest c =
    omega (
      arith,
      c.loop-t.invariant.below,
      c.loop-t.invariant.count_is,
      counted_most c.args.s.now c.loop-t.t,
      c.requires.counts.terms_are,
      c.requires.well_formed.terms_most,
    )

pub offset_bounds-pairs-n : goal.offset_bounds-pairs-n
offset_bounds-pairs-n c =
    omega (
      arith,
      c.loop-t.invariant.below,
      c.loop-t.invariant.count_is,
      counted_most c.args.s.now c.loop-t.t,
      c.requires.counts.terms_are,
      c.requires.well_formed.terms_most,
    )

pub bounds-pairs-n : goal.bounds-pairs-n
bounds-pairs-n c =
    omega (
      arith,
      c.loop-t.invariant.count_is,
      c.requires.enough,
      counted_below c.args.s.now c.loop-t.t (term_count c.args.s.now)
          (omega (arith, c.loop-t-test.true, c.requires.counts.terms_are))
          (sym c.is_number.ensures ∙ c.if-is_number.true),
    )

pub overflow_mul-highest : goal.overflow_mul-highest
overflow_mul-highest c =
    omega (
      arith,
      c.loop-t.invariant.below,
      c.loop-t.invariant.count_is,
      counted_most c.args.s.now c.loop-t.t,
      c.requires.counts.terms_are,
      c.requires.well_formed.terms_most,
    )

pub overflow_add-highest : goal.overflow_add-highest
overflow_add-highest c =
    omega (
      arith,
      c.loop-t.invariant.below,
      c.loop-t.invariant.count_is,
      counted_most c.args.s.now c.loop-t.t,
      c.requires.counts.terms_are,
      c.requires.well_formed.terms_most,
    )

pub offset_bounds-pairs-n-then-is_number : goal.offset_bounds-pairs-n-then-is_number
offset_bounds-pairs-n-then-is_number c =
    omega (
      arith,
      c.loop-t.invariant.below,
      c.loop-t.invariant.count_is,
      counted_most c.args.s.now c.loop-t.t,
      c.requires.counts.terms_are,
      c.requires.well_formed.terms_most,
    )

pub bounds-pairs-n-then-is_number : goal.bounds-pairs-n-then-is_number
bounds-pairs-n-then-is_number c =
    omega (
      arith,
      c.loop-t.invariant.count_is,
      c.requires.enough,
      counted_below c.args.s.now c.loop-t.t (term_count c.args.s.now)
          (omega (arith, c.loop-t-test.true, c.requires.counts.terms_are))
          (sym c.is_number.ensures ∙ c.if-is_number.true),
    )

pub overflow_add-n : goal.overflow_add-n
overflow_add-n c =
    omega (
      arith,
      c.loop-t.invariant.below,
      c.loop-t.invariant.count_is,
      counted_most c.args.s.now c.loop-t.t,
      c.requires.counts.terms_are,
      c.requires.well_formed.terms_most,
    )

pub loop-t-preserved : goal.loop-t-preserved
loop-t-preserved c =
    record {
      below = omega arith;
      count_is = elim c.if-is_number.branch [
        | then-is_number w ↦ counted_yes c.args.s.now c.loop-t.t c.loop-t.invariant.count_is (sym w.if-is_number.true ∙ c.is_number.ensures) w.n-is
        | else-is_number w ↦ counted_no c.args.s.now c.loop-t.t c.loop-t.invariant.count_is (sym w.if-is_number.false ∙ c.is_number.ensures) w.n-is
      ];
      laid = elim c.if-is_number.branch [
        | then-is_number w ↦ laid_pair c.loop-t.invariant.laid
            (omega (arith, c.loop-t-test.true, c.requires.counts.terms_are, c.requires.well_formed.terms_most, c.requires.decoded.long))
            (sym w.if-is_number.true ∙ c.is_number.ensures) c.loop-t.invariant.count_is (omega (arith, c.type_inv.pairs (2 * c.loop-t.n)))
            (omega (arith, c.type_inv.pairs (2 * c.loop-t.n + 1))) w.interval.ensures w.terms-is
        | else-is_number w ↦ laid_other c.loop-t.invariant.laid (sym w.if-is_number.false ∙ c.is_number.ensures) w.terms-is
      ];
    }
