-- The table has the new numbers of the first t terms, and the count is how many of them are kept. A check or an enable gets the number of its inner
-- term, which is lower (inner_number), and any other term the count (own_number).
use native.Mathlib.Omega.{arith}
use mathlib.Core.Path.{◌≡◌, refl, ap, ◌∙◌}
use Prim.Native.Nat.{◌<◌}
use Rattle.program.specs.Layout.{terms}
use Rattle.erasure.specs.Kept.{kept_below}
use Rattle.erasure.specs.Lean.{kept_term, new_terms, new_term}
use Rattle.erasure.proofs.Laws.Kept.{kept_most}
use Rattle.renumbering.proofs.TableLaws.{table_none, table_whole, count_none, numbered_kept, numbered_gone, within, through}
use Rattle.renumbering.proofs.TermLaws.{kept_here, gone_here, inner_below, inner_number, own_number}
use Rattle.renumbering.proofs.terms.number_terms.Goals as goal
use Rattle.renumbering.proofs.terms.number_terms.Goals.{then-is_erased, else-is_erased}

pub loop-t-init : goal.loop-t-init
loop-t-init c =
    record {
      room = refl;
      count_is = count_none (kept_term c.args.s.now);
      table = table_none (new_term c.args.s.now) _;
    }

pub bounds-numbers-inner : goal.bounds-numbers-inner
bounds-numbers-inner c =
    let l : c.loop-t.t < terms c.args.s.now = within c.loop-t-test.true c.requires.counts.terms_are in omega (
      arith,
      inner_below c.requires l c.term-x.ensures c.is_erased.ensures c.if-is_erased.true,
      c.requires.well_formed.terms_most,
    )

pub overflow_add-count : goal.overflow_add-count
overflow_add-count c =
    omega (
      arith,
      kept_most (kept_term c.args.s.now) c.loop-t.t,
      c.loop-t.invariant.count_is,
      c.requires.counts.terms_are,
      c.requires.well_formed.terms_most,
    )

pub loop-t-preserved : goal.loop-t-preserved
loop-t-preserved c =
    let l : c.loop-t.t < terms c.args.s.now = within c.loop-t-test.true c.requires.counts.terms_are in
    let inside : c.loop-t.t < 1024 = omega (arith, l, c.requires.well_formed.terms_most) in
    elim c.if-is_erased.branch [
      | then-is_erased w ↦ numbered_gone c.loop-t.invariant inside (gone_here c.requires l c.term-x.ensures c.is_erased.ensures w.if-is_erased.true)
          (inner_number c.requires l c.term-x.ensures c.is_erased.ensures w.if-is_erased.true c.loop-t.invariant.table) w.numbers-is w.count-is
      | else-is_erased w ↦ numbered_kept c.loop-t.invariant inside (kept_here c.requires l c.term-x.ensures c.is_erased.ensures w.if-is_erased.false)
          (own_number c.requires l c.term-x.ensures c.is_erased.ensures w.if-is_erased.false c.loop-t.invariant.count_is) w.numbers-is w.count-is
    ]

pub returns : goal.returns
unfolding new_terms
returns c =
    let e : c.loop-t.t ≡ terms c.args.s.now = through c.loop-t.auto.t-end c.loop-t-test.false
    c.requires.counts.terms_are in record {
      table = table_whole (new_term c.args.s.now) c.loop-t.numbers e
          c.loop-t.invariant.table;
      count_is = c.loop-t.invariant.count_is ∙ ap (kept_below (kept_term c.args.s.now)) e;
    }
