-- The words of the terms are decoded and have the pairs laid in: they are as the evaluator asks (laid_table) and as the refinement asks (interval_table).
-- The run holds the start stack's grants and, above the root, the set of principal 0, as the meaning does (intervals_after).
use native.Mathlib.Omega.{arith}
use mathlib.Core.List.{[], ◌∷◌}
use mathlib.Core.Path.{refl}
use Rattle.interp.specs.Laws.{empty_table}
use Rattle.ranges.proofs.TableLaws.{pairs_enough, interval_table, laid_table}
use Rattle.ranges.proofs.IntervalLaws.{intervals_after}
use Rattle.ranges.proofs.evaluate.Goals as goal

pub overflow_sub-root : goal.overflow_sub-root
overflow_sub-root c = omega (arith, c.requires.cleared.counts.terms_are, c.requires.cleared.well_formed.terms_least)

pub decode_terms-requires : goal.decode_terms-requires
decode_terms-requires c = record { well_formed = c.requires.cleared.well_formed; counts = c.requires.cleared.counts; empty = empty_table _ refl }

pub lay_pairs-requires : goal.lay_pairs-requires
lay_pairs-requires c =
    record {
      well_formed = c.requires.cleared.well_formed;
      counts = c.requires.cleared.counts;
      decoded = c.decode_terms.ensures;
      enough = pairs_enough
          c.args.s.now c.args.pairs.now c.requires.pairs_ok_holds;
    }

pub start_access-access-requires : goal.start_access-access-requires
start_access-access-requires c = c.requires.cleared.whole

pub evaluate_words-t-requires : goal.evaluate_words-t-requires
evaluate_words-t-requires c = laid_table c.requires.cleared.well_formed c.requires.cleared.counts c.decode_terms.ensures c.lay_pairs.ensures

pub returns : goal.returns
returns c =
    intervals_after c.args.s.now c.args.pairs.now c.args.start.now c.args.enforce c.args.cells.now
    c.args.posts.now c.args.calls c.args.depth c.requires.cleared c.requires.pairs_ok_holds (0 ∷ []) [] c.outcome_of.result
    (interval_table c.requires.cleared.well_formed c.requires.cleared.counts c.decode_terms.ensures
    c.lay_pairs.ensures)
    c.start_access-access.ensures c.evaluate_words-t.ensures
    c.outcome_of.ensures
