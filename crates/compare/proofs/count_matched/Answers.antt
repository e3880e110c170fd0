-- `count_matched` goes through the office's entries. The invariant: the unit's entries before byte i are placed among the office's first j, each as early as
-- it can be. The next is placed at j if the two are equal (placing_same) and further on if not (placing_other); the number is complete where either record
-- ends (placing_all, placing_end).
use native.Mathlib.Omega.{arith}
use Prim.Native.Nat.{◌*◌, ◌+◌}
use mathlib.Core.Path.{◌≡◌, sym, ◌∙◌, subst}
use Rattle.traces.proofs.Laws.Records.{well_formed_true}
use Rattle.compare.proofs.CompareLaws.{Placing, placing_all, placing_end, unit_entry, office_entry, placing_same, placing_other}
use Rattle.compare.proofs.count_matched.Goals.{then-same, else-same}
use Rattle.compare.proofs.count_matched.Goals as goal

pub returns-then-i-unit : goal.returns-then-i-unit
returns-then-i-unit c = placing_all c.args.unit.now c.args.office.now c.loop-j.i (4 * c.loop-j.j) c.loop-j.invariant c.if-i-unit.true

pub same-requires : goal.same-requires
same-requires c =
    record {
      of_unit = unit_entry c.args.unit.now c.args.office.now c.requires c.loop-j.i (4 * c.loop-j.j) c.loop-j.invariant c.if-i-unit.false (omega arith);
      of_office = office_entry c.args.unit.now c.args.office.now c.requires c.loop-j.i (4 * c.loop-j.j) c.loop-j.invariant c.if-i-unit.false (omega arith);
    }

pub loop-j-preserved : goal.loop-j-preserved
loop-j-preserved c =
    let next : 4 * c.loop-j.j + 4 ≡ 4 * (c.loop-j.j + 1) = omega arith in
    subst (Placing c.args.unit.now c.args.office.now c.if-same.i) next
    (elim c.if-same.branch [
      | then-same w ↦ placing_same c.args.unit.now c.args.office.now c.requires c.loop-j.i (4 * c.loop-j.j)
          c.loop-j.invariant c.if-i-unit.false (omega arith) (sym c.same.ensures ∙ w.if-same.true) w.i-is
      | else-same w ↦ placing_other c.args.unit.now c.args.office.now c.requires c.loop-j.i (4 * c.loop-j.j)
          c.loop-j.invariant c.if-i-unit.false (omega arith) (sym c.same.ensures ∙ w.if-same.false) w.i-is
    ])

pub returns : goal.returns
returns c =
    let whole = (well_formed_true c.args.office.now c.requires.of_office).whole_entries in
    placing_end c.args.unit.now c.args.office.now c.loop-j.i (4 * c.loop-j.j) c.loop-j.invariant (omega arith)
