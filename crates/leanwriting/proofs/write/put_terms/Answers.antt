-- The records of those among the first t terms that are kept stand one after the other, and the count is how many they are. A term is kept
-- unless it is a check or an enable (kept_here, gone_here); its record then comes behind the others (gathered_yes).
use native.Mathlib.Omega.{arith}
use mathlib.Core.Path.{ap, ◌∙◌}
use lib.ListN.{length}
use Rattle.erasure.specs.Lean.{kept_term, term_bytes}
use Rattle.renumbering.proofs.TermLaws.{kept_here, gone_here}
use Rattle.renumbering.proofs.TableLaws.{within}
use Rattle.leanwriting.proofs.WriteLaws.{term_gathering, gathered_none, gathered_length, gathered_few, gathered_room, gathered_yes, gathered_no}
use Rattle.leanwriting.proofs.write.put_terms.Goals as goal
use Rattle.leanwriting.proofs.write.put_terms.Goals.{then-not-is_erased, else-not-is_erased}

pub loop-t-init : goal.loop-t-init
loop-t-init c = gathered_none (kept_term c.args.s.now) (term_bytes c.args.s.now) c.args.buffer.now c.args.at

pub overflow_mul-count : goal.overflow_mul-count
overflow_mul-count c =
    omega (
      arith,
      gathered_few (term_gathering c.args.s.now c.args.buffer.now c.args.at c.requires.room) c.loop-t.invariant,
      c.requires.ready.types_ready.sheet.counts.terms_are,
      c.requires.ready.types_ready.sheet.well_formed.terms_most,
    )

pub overflow_add-at : goal.overflow_add-at
overflow_add-at c =
    let inside = within c.loop-t-test.true c.requires.ready.types_ready.sheet.counts.terms_are in omega (
      arith,
      gathered_room (term_gathering c.args.s.now c.args.buffer.now c.args.at c.requires.room) c.loop-t.invariant inside
          (kept_here c.requires.ready.types_ready.sheet inside c.term-x.ensures c.is_erased.ensures c.if-not-is_erased.true),
      gathered_length (term_gathering c.args.s.now c.args.buffer.now c.args.at c.requires.room) c.loop-t.invariant (omega (arith, inside)),
      c.ranges.at.fits,
      ap length c.term_bytes-r.ensures,
    )

pub put-requires : goal.put-requires
put-requires c =
    let inside = within c.loop-t-test.true c.requires.ready.types_ready.sheet.counts.terms_are in omega (
      arith,
      gathered_room (term_gathering c.args.s.now c.args.buffer.now c.args.at c.requires.room) c.loop-t.invariant inside
          (kept_here c.requires.ready.types_ready.sheet inside c.term-x.ensures c.is_erased.ensures c.if-not-is_erased.true),
      gathered_length (term_gathering c.args.s.now c.args.buffer.now c.args.at c.requires.room) c.loop-t.invariant (omega (arith, inside)),
      c.ranges.at.fits,
      ap length c.term_bytes-r.ensures,
    )

pub loop-t-preserved : goal.loop-t-preserved
loop-t-preserved c =
    let g = (term_gathering c.args.s.now c.args.buffer.now c.args.at c.requires.room) in
    let inside = within c.loop-t-test.true c.requires.ready.types_ready.sheet.counts.terms_are in
    elim c.if-not-is_erased.branch [
      | then-not-is_erased w ↦ gathered_yes g c.loop-t.invariant inside
          (kept_here c.requires.ready.types_ready.sheet inside c.term-x.ensures c.is_erased.ensures w.if-not-is_erased.true)
          (w.buffer-is ∙ w.put.ensures) w.term_bytes-r.ensures w.count-is
      | else-not-is_erased w ↦ gathered_no g c.loop-t.invariant
          (gone_here c.requires.ready.types_ready.sheet inside c.term-x.ensures c.is_erased.ensures w.if-not-is_erased.false) w.buffer-is w.count-is
    ]
