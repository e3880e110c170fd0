-- The evaluator's functions give and leave what the interpreter's clause for their action says; each answer cites the law of its action (ActionLaws) and puts
-- together what its calls gave (ContractLaws).
use Rattle.std.proofs.Common.{◌∙◌, sym, refl, le_refl, ltb, arith}
use Rattle.machine.specs.Store.{action_of}
use Rattle.stores.proofs.CellLaws.{bound_full}
use Rattle.evaluator.proofs.ContractLaws.{ends, ends_same, goes_on, stays, follows, same_cells}
use Rattle.evaluator.proofs.ActionLaws.{node_of, node_leaf, boolean_is, number_is, variable_is, function_is, enable_is, leading_below, operand_below, branch_below, guard_of}
use Rattle.evaluator.proofs.ActionLaws.{tail_stops, tail_goes, first_is, first_posts, first_branches, first_seconds, second_is, pair_applies, pair_operates}
use Rattle.evaluator.proofs.ActionLaws.{branch_stuck, branch_undecided, branch_to, apply_stuck, apply_deep, apply_spent, apply_full, apply_runs, one_call_less}
use Rattle.evaluator.proofs.ActionLaws.{operate_calls, post_done_lem, post_calls}
use Rattle.evaluator.proofs.+evaluation.Goals as goal

pub apply-returns-then-sort-ne2 : goal.apply-returns-then-sort-ne2
apply-returns-then-sort-ne2 t c = ends (apply_stuck _ _ _ _ _ _ _ c.sort.ensures c.if-sort-ne2.true c.stop.ensures)

pub apply-returns-then-depth-eq0 : goal.apply-returns-then-depth-eq0
apply-returns-then-depth-eq0 t c =
    ends (apply_deep _ _ _ _ _ _ _ c.sort.ensures c.if-sort-ne2.false c.if-depth-eq0.true c.stop-then-depth-eq0.ensures)

pub apply-returns-then-calls-eq0 : goal.apply-returns-then-calls-eq0
apply-returns-then-calls-eq0 t c =
    ends (apply_spent _ _ _ _ _ _ _ c.sort.ensures c.if-sort-ne2.false c.if-depth-eq0.false c.if-calls-eq0.true c.stop-then-calls-eq0.ensures)

pub apply-returns-then-made-eq0 : goal.apply-returns-then-made-eq0
apply-returns-then-made-eq0 t c =
    ends_same (same_cells _ _ _ _ (bound_full _ _ _ _ c.bind-made.ensures c.if-made-eq0.true).1) refl
    (apply_full _ _ _ _ _ _ _ c.sort.ensures c.if-sort-ne2.false c.if-depth-eq0.false c.if-calls-eq0.false
    (bound_full _ _ _ _ c.bind-made.ensures c.if-made-eq0.true).0 c.stop-then-made-eq0.ensures)

pub apply-returns : goal.apply-returns
apply-returns t c =
    goes_on (apply_runs _ _ _ _ _ _ _ c.sort.ensures c.if-sort-ne2.false c.if-depth-eq0.false c.if-calls-eq0.false c.bind-made.ensures
    c.if-made-eq0.false c.payload-body.ensures c.env.ensures c.next_cell-own.ensures)
    (omega (arith, one_call_less c.args.counters.now c.bind-made.result c.if-calls-eq0.false)) refl c.eval.ensures

pub eval-eval_enable-requires : goal.eval-eval_enable-requires
unfolding action_of
eval-eval_enable-requires t c =
    (omega arith, node_of c.requires c.ranges.t.fits c.word_at-x.ensures c.kind_of-kind.ensures 8 c.in-8.is)

pub eval-returns-in-0 : goal.eval-returns-in-0
eval-returns-in-0 t c =
    ends (boolean_is _ _ _ (node_leaf c.requires c.ranges.t.fits c.word_at-x.ensures c.kind_of-kind.ensures (omega arith)) _
    c.kind_of-kind.ensures c.in-0.is c.small_of.ensures c.boolean.ensures)

pub eval-returns-in-1 : goal.eval-returns-in-1
eval-returns-in-1 t c =
    ends (number_is _ _ _ (node_leaf c.requires c.ranges.t.fits c.word_at-x.ensures c.kind_of-kind.ensures (omega arith)) _
    c.kind_of-kind.ensures c.in-1.is c.first_of.ensures c.second_of.ensures c.interval.ensures)

pub eval-returns-in-2 : goal.eval-returns-in-2
eval-returns-in-2 t c =
    ends_same (same_cells _ _ _ _ c.look.ensures.store_is) refl
    (variable_is _ _ _ (node_leaf c.requires c.ranges.t.fits c.word_at-x.ensures c.kind_of-kind.ensures (omega arith)) _
    c.kind_of-kind.ensures c.in-2.is c.first_of-in-2.ensures c.look.ensures.answer_is)

pub eval-returns-in-3 : goal.eval-returns-in-3
eval-returns-in-3 t c =
    ends (function_is _ _ _ (node_leaf c.requires c.ranges.t.fits c.word_at-x.ensures c.kind_of-kind.ensures (omega arith)) _
    c.kind_of-kind.ensures c.in-3.is c.second_of-in-3.ensures c.function.ensures)

pub eval_enable-returns : goal.eval_enable-returns
eval_enable-returns t c =
    record {
      done = enable_is _ _ _ c.requires _ c.first_of.ensures c.small_of.ensures c.enabled_now-old.ensures.answer_is c.enabled_now-old.ensures.store_is
          c.enable-inner.ensures.answer_is c.enable-inner.ensures.store_is c.eval-w.ensures.done c.restore.ensures;
      calls = c.eval-w.ensures.calls;
      names = c.eval-w.ensures.names;
    }

pub eval_first-eval-a-requires : goal.eval_first-eval-a-requires
eval_first-eval-a-requires t c = (omega (arith, leading_below c.requires c.first_of.ensures), c.requires.node.ready)

pub eval_first-returns-then-is_stop : goal.eval_first-returns-then-is_stop
eval_first-returns-then-is_stop t c =
    stays _ (first_is c.requires _ _ _ c.first_of.ensures) c.eval-a.ensures (sym c.is_stop.ensures ∙ c.if-is_stop.true)

pub eval_first-append-requires : goal.eval_first-append-requires
eval_first-append-requires t c = guard_of c.requires c.kind_of-kind.ensures c.if-kind-gt13.true

pub eval_first-returns-then-kind-gt13 : goal.eval_first-returns-then-kind-gt13
eval_first-returns-then-kind-gt13 t c =
    follows _ (first_is c.requires _ _ _ c.first_of.ensures) c.eval-a.ensures (sym c.is_stop.ensures ∙ c.if-is_stop.false)
    (record {
      done = post_done_lem c.append.ensures _ ∙ sym (first_posts c.requires _ _ _ _ _ c.kind_of-kind.ensures c.if-kind-gt13.true);
      calls = post_calls c.append.ensures;
      names = refl;
    })

pub eval_first-returns-then-kind-ne6 : goal.eval_first-returns-then-kind-ne6
eval_first-returns-then-kind-ne6 t c =
    follows _ (first_is c.requires _ _ _ c.first_of.ensures) c.eval-a.ensures (sym c.is_stop.ensures ∙ c.if-is_stop.false)
    (goes_on (first_seconds c.requires _ _ _ _ _ c.kind_of-kind.ensures c.if-kind-gt13.false c.if-kind-ne6.true) (le_refl _) refl c.eval_second.ensures)

pub eval_first-returns-then-sort-ne0 : goal.eval_first-returns-then-sort-ne0
eval_first-returns-then-sort-ne0 t c =
    follows _ (first_is c.requires _ _ _ c.first_of.ensures) c.eval-a.ensures (sym c.is_stop.ensures ∙ c.if-is_stop.false)
    (ends (first_branches c.requires _ _ _ _ _ c.kind_of-kind.ensures c.if-kind-gt13.false c.if-kind-ne6.false refl refl
    ∙ branch_stuck _ _ _ _ _ c.sort.ensures c.if-sort-ne0.true c.stop.ensures))

pub eval_first-returns-then-payload-eq2 : goal.eval_first-returns-then-payload-eq2
eval_first-returns-then-payload-eq2 t c =
    follows _ (first_is c.requires _ _ _ c.first_of.ensures) c.eval-a.ensures (sym c.is_stop.ensures ∙ c.if-is_stop.false)
    (ends (first_branches c.requires _ _ _ _ _ c.kind_of-kind.ensures c.if-kind-gt13.false c.if-kind-ne6.false refl refl
    ∙ branch_undecided _ _ _ c.sort.ensures c.if-sort-ne0.false c.payload.ensures _ _ c.if-payload-eq2.true c.stop-then-payload-eq2.ensures))

pub eval_first-eval-requires : goal.eval_first-eval-requires
eval_first-eval-requires t c = (
  omega (
    arith,
    branch_below c.requires c.kind_of-kind.ensures c.if-kind-ne6.false c.second_of.ensures c.third_of.ensures (ltb 0 c.payload-2.result)
        c.choose-branch.ensures,
  ),
  c.requires.node.ready,
)

pub eval_first-returns : goal.eval_first-returns
eval_first-returns t c =
    follows _ (first_is c.requires _ _ _ c.first_of.ensures) c.eval-a.ensures (sym c.is_stop.ensures ∙ c.if-is_stop.false)
    (goes_on (first_branches c.requires _ _ _ _ _ c.kind_of-kind.ensures c.if-kind-gt13.false c.if-kind-ne6.false c.second_of.ensures
    c.third_of.ensures ∙ branch_to _ _ _ c.sort.ensures c.if-sort-ne0.false c.payload.ensures _ _ _ _ _ _ c.if-payload-eq2.false
    c.payload-2.ensures c.choose-branch.ensures) (le_refl _) refl c.eval.ensures)

pub eval_second-eval-b-requires : goal.eval_second-eval-b-requires
eval_second-eval-b-requires t c = (omega (arith, (operand_below c.requires refl c.second_of.ensures).1), c.requires.node.ready)

pub eval_second-returns-then-is_stop : goal.eval_second-returns-then-is_stop
eval_second-returns-then-is_stop t c =
    stays _ (second_is c.requires _ _ _ _ c.second_of.ensures) c.eval-b.ensures (sym c.is_stop.ensures ∙ c.if-is_stop.true)

pub eval_second-returns-then-kind-eq5 : goal.eval_second-returns-then-kind-eq5
eval_second-returns-then-kind-eq5 t c =
    follows _ (second_is c.requires _ _ _ _ c.second_of.ensures) c.eval-b.ensures (sym c.is_stop.ensures ∙ c.if-is_stop.false)
    (goes_on (pair_applies c.requires _ _ _ _ _ c.kind_of-kind.ensures c.if-kind-eq5.true) (le_refl _) refl c.apply.ensures)

pub eval_second-returns : goal.eval_second-returns
eval_second-returns t c =
    follows _ (second_is c.requires _ _ _ _ c.second_of.ensures) c.eval-b.ensures (sym c.is_stop.ensures ∙ c.if-is_stop.false)
    (record {
      done = pair_operates c.requires _ _ _ _ _ _ _ _ c.kind_of-kind.ensures c.if-kind-eq5.false c.operate.ensures;
      calls = operate_calls c.operate.ensures;
      names = refl;
    })

pub eval_tail-returns-then-is_stop : goal.eval_tail-returns-then-is_stop
eval_tail-returns-then-is_stop t c =
    record {
      done = sym (tail_stops c.requires _ _ _ c.tail_step-e.ensures _ (sym c.is_stop.ensures ∙ c.if-is_stop.true));
      calls = omega (arith, c.tail_step-e.ensures.calls);
      names = refl;
    }

pub eval_tail-returns : goal.eval_tail-returns
eval_tail-returns t c =
    goes_on (tail_goes c.requires _ _ _ c.tail_step-e.ensures _ (sym c.is_stop.ensures ∙ c.if-is_stop.false))
    (omega (arith, c.tail_step-e.ensures.calls)) refl c.eval.ensures
