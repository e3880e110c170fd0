-- The records of those among the first t types that are kept stand one after the other, and the count is how many they are. A type is kept
-- if its number is the count (entry_first, entry_other); its record then comes behind the others (gathered_yes).
use native.Mathlib.Omega.{arith}
use mathlib.Core.Path.{ap, ◌∙◌}
use lib.ListN.{length}
use Rattle.erasure.specs.Lean.{kept_type, type_bytes}
use Rattle.renumbering.proofs.TypeLaws.{entry_first, entry_other}
use Rattle.renumbering.proofs.TableLaws.{within}
use Rattle.leanwriting.proofs.WriteLaws.{type_gathering, gathered_none, gathered_length, gathered_few, gathered_room, gathered_yes, gathered_no}
use Rattle.leanwriting.proofs.write.put_types.Goals as goal
use Rattle.leanwriting.proofs.write.put_types.Goals.{then-types-t, else-types-t}

pub loop-t-init : goal.loop-t-init
loop-t-init c = gathered_none (kept_type c.args.s.now) (type_bytes c.args.s.now) c.args.buffer.now c.args.at

pub put-requires : goal.put-requires
put-requires c =
    let inside = within c.loop-t-test.true c.requires.ready.sheet.counts.types_are in omega (
      arith,
      gathered_room (type_gathering c.args.s.now c.args.buffer.now c.args.at c.requires.room) c.loop-t.invariant inside
          (entry_first c.requires.ready inside c.loop-t.invariant.count_is c.if-types-t.true),
      gathered_length (type_gathering c.args.s.now c.args.buffer.now c.args.at c.requires.room) c.loop-t.invariant (omega (arith, inside)),
      c.ranges.at.fits,
      ap length c.type_bytes-r.ensures,
    )

pub overflow_add-count : goal.overflow_add-count
overflow_add-count c =
    omega (
      arith,
      gathered_few (type_gathering c.args.s.now c.args.buffer.now c.args.at c.requires.room) c.loop-t.invariant,
      c.requires.ready.sheet.counts.types_are,
      c.requires.ready.sheet.well_formed.types_most,
    )

pub loop-t-preserved : goal.loop-t-preserved
loop-t-preserved c =
    let g = (type_gathering c.args.s.now c.args.buffer.now c.args.at c.requires.room) in
    let inside = within c.loop-t-test.true c.requires.ready.sheet.counts.types_are in
    elim c.if-types-t.branch [
      | then-types-t w ↦ gathered_yes g c.loop-t.invariant inside
          (entry_first c.requires.ready inside c.loop-t.invariant.count_is w.if-types-t.true)
          (w.buffer-is ∙ w.put.ensures) w.type_bytes-r.ensures w.count-is
      | else-types-t w ↦ gathered_no g c.loop-t.invariant
          (entry_other c.requires.ready inside c.loop-t.invariant.count_is w.if-types-t.false) w.buffer-is w.count-is
    ]
