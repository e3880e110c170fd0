-- A sheet that is not erasable is 32 (not_erasable), and a buffer shorter than the lean sheet 33 (no_room); the length is that of the sheet's four
-- fields (size_is). Otherwise the whole of it is written (all_written).
use native.Mathlib.Omega.{arith}
use Rattle.leanwriting.proofs.WriteLaws.{size_is, size_small}
use Rattle.lean.proofs.EntryLaws.{not_erasable, no_room, all_written, sheet_ready}
use Rattle.lean.proofs.erase_accepted.Goals as goal

pub returns-then-not-erasable : goal.returns-then-not-erasable
returns-then-not-erasable c = not_erasable c.args.s.now c.args.buffer.now c.erasable.ensures c.if-not-erasable.true

pub overflow_cast-size : goal.overflow_cast-size
overflow_cast-size c = omega (arith, size_small (sheet_ready c.requires c.number_types-y.ensures c.number_terms-m.ensures))

pub overflow_mul-size : goal.overflow_mul-size
overflow_mul-size c = omega (arith, size_small (sheet_ready c.requires c.number_types-y.ensures c.number_terms-m.ensures))

pub overflow_add-size : goal.overflow_add-size
overflow_add-size c = omega (arith, size_small (sheet_ready c.requires c.number_types-y.ensures c.number_terms-m.ensures))

pub overflow_mul-size-2 : goal.overflow_mul-size-2
overflow_mul-size-2 c = omega (arith, size_small (sheet_ready c.requires c.number_types-y.ensures c.number_terms-m.ensures))

pub overflow_add-size-2 : goal.overflow_add-size-2
overflow_add-size-2 c = omega (arith, size_small (sheet_ready c.requires c.number_types-y.ensures c.number_terms-m.ensures))

pub overflow_mul-size-3 : goal.overflow_mul-size-3
overflow_mul-size-3 c = omega (arith, size_small (sheet_ready c.requires c.number_types-y.ensures c.number_terms-m.ensures))

pub overflow_add-size-3 : goal.overflow_add-size-3
overflow_add-size-3 c = omega (arith, size_small (sheet_ready c.requires c.number_types-y.ensures c.number_terms-m.ensures))

pub overflow_cast-size-2 : goal.overflow_cast-size-2
overflow_cast-size-2 c = omega (arith, size_small (sheet_ready c.requires c.number_types-y.ensures c.number_terms-m.ensures))

pub returns-then-buffer-size : goal.returns-then-buffer-size
returns-then-buffer-size c =
    no_room c.args.s.now c.args.buffer.now c.erasable.ensures c.if-not-erasable.false
    (size_is (sheet_ready c.requires c.number_types-y.ensures c.number_terms-m.ensures)) c.if-buffer-size.true

pub put_sheet-requires : goal.put_sheet-requires
put_sheet-requires c =
    let ready = sheet_ready c.requires c.number_types-y.ensures c.number_terms-m.ensures in
    record { ready = ready; room = omega (arith, size_is ready, c.if-buffer-size.false) }

pub returns : goal.returns
returns c =
    all_written c.args.s.now c.args.buffer.now c.erasable.ensures c.if-not-erasable.false
    (size_is (sheet_ready c.requires c.number_types-y.ensures c.number_terms-m.ensures)) c.if-buffer-size.false
    c.put_sheet.ensures
