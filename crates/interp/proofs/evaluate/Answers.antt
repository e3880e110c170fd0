-- The words of the terms are decoded, and as the evaluator asks (table_of). The answer is told from the tally of the root (answered_by).
use native.Mathlib.Omega.{arith}
use mathlib.Core.Path.{refl}
use Prim.Native.Nat.{◌-◌}
use Rattle.evaluator.specs.Laws.{table_of}
use Rattle.interp.specs.Laws.{empty_table}
use Rattle.interp.proofs.RunLaws.{answered_by}
use Rattle.interp.proofs.evaluate.Goals as goal

pub overflow_sub-root : goal.overflow_sub-root
overflow_sub-root c = omega (arith, c.requires.counts.terms_are, c.requires.well_formed.terms_least)

pub decode_terms-requires : goal.decode_terms-requires
decode_terms-requires c = record { well_formed = c.requires.well_formed; counts = c.requires.counts; empty = empty_table _ refl }

pub evaluate_words-t-requires : goal.evaluate_words-t-requires
evaluate_words-t-requires c = table_of c.requires.well_formed c.requires.counts c.decode_terms.ensures

pub returns : goal.returns
returns c =
    let t = c.evaluate_words-t.result in
    record {
      terms = _;
      table = c.decode_terms.ensures;
      tally = t;
      tallied = c.evaluate_words-t.ensures;
      answer_is = answered_by (c.args.c.terms - 1) t c.outcome_of-outcome.result c.out_of.ensures c.outcome_of-outcome.ensures;
      entries_are = refl;
    }
