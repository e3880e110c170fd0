-- The table has the new numbers of the first t types, and the count is how many of them are kept. A type that is its own head gets the count
-- (first_number), and any other the number of its head, which is lower (merged_number).
use native.Mathlib.Omega.{arith}
use mathlib.Core.Path.{◌≡◌, refl, ap, ◌∙◌}
use Prim.Native.Nat.{◌<◌}
use Rattle.program.specs.Layout.{types}
use Rattle.erasure.specs.Kept.{kept_below}
use Rattle.erasure.specs.Lean.{kept_type, new_types, new_type}
use Rattle.erasure.proofs.Laws.Kept.{kept_most}
use Rattle.renumbering.proofs.TableLaws.{table_none, table_whole, count_none, numbered_kept, numbered_gone, through}
use Rattle.renumbering.proofs.TypeLaws.{merging, head_first, first_number, head_other, head_below, merged_number}
use Rattle.renumbering.proofs.types.number_types.Goals as goal
use Rattle.renumbering.proofs.types.number_types.Goals.{then-h-i, else-h-i}

pub loop-t-init : goal.loop-t-init
loop-t-init c =
    record {
      room = refl;
      count_is = count_none (kept_type c.args.s.now);
      table = table_none (new_type c.args.s.now) _;
    }

pub overflow_add-count : goal.overflow_add-count
overflow_add-count c =
    omega (
      arith,
      kept_most (kept_type c.args.s.now) c.loop-t.t,
      c.loop-t.invariant.count_is,
      c.requires.counts.types_are,
      c.requires.well_formed.types_most,
    )

pub bounds-numbers-h : goal.bounds-numbers-h
bounds-numbers-h c =
    omega (
      arith,
      head_below (merging c.requires c.loop-t.invariant.table c.loop-t-test.true c.requires.counts.types_are)
          c.first_alike-h.ensures c.if-h-i.false,
      c.requires.counts.types_are,
      c.requires.well_formed.types_most,
    )

pub loop-t-preserved : goal.loop-t-preserved
loop-t-preserved c =
    let m = merging c.requires c.loop-t.invariant.table c.loop-t-test.true c.requires.counts.types_are in
    let inside : c.loop-t.t < 256 = omega (arith, m.inside, c.requires.well_formed.types_most) in
    elim c.if-h-i.branch [
      | then-h-i w ↦ numbered_kept c.loop-t.invariant inside (head_first m c.first_alike-h.ensures w.if-h-i.true)
          (first_number m c.first_alike-h.ensures w.if-h-i.true c.loop-t.invariant.count_is) w.numbers-is w.count-is
      | else-h-i w ↦ numbered_gone c.loop-t.invariant inside (head_other m c.first_alike-h.ensures w.if-h-i.false)
          (merged_number m c.first_alike-h.ensures w.if-h-i.false) w.numbers-is w.count-is
    ]

pub returns : goal.returns
unfolding new_types
returns c =
    let e : c.loop-t.t ≡ types c.args.s.now = through c.loop-t.auto.t-end c.loop-t-test.false
    c.requires.counts.types_are in record {
      table = table_whole (new_type c.args.s.now) c.loop-t.numbers e
          c.loop-t.invariant.table;
      count_is = c.loop-t.invariant.count_is ∙ ap (kept_below (kept_type c.args.s.now)) e;
    }
