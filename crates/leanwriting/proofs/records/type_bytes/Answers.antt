-- The parts are types of the sheet (parts_in), and the bytes are those of their new numbers (type_bytes_are).
use native.Mathlib.Omega.{arith}
use Rattle.leanwriting.proofs.RecordLaws.{parts_in, type_bytes_are}
use Rattle.leanwriting.proofs.records.type_bytes.Goals as goal

pub overflow_cast-a : goal.overflow_cast-a
overflow_cast-a c =
    omega (
      arith,
      (parts_in c.requires c.type_record-x.ensures).arg_below,
      (parts_in c.requires
          c.type_record-x.ensures).res_below,
      c.requires.ready.sheet.well_formed.types_most,
    )

pub overflow_cast-b : goal.overflow_cast-b
overflow_cast-b c =
    omega (
      arith,
      (parts_in c.requires c.type_record-x.ensures).arg_below,
      (parts_in c.requires
          c.type_record-x.ensures).res_below,
      c.requires.ready.sheet.well_formed.types_most,
    )

pub offset_bounds-types-a : goal.offset_bounds-types-a
offset_bounds-types-a c =
    omega (
      arith,
      (parts_in c.requires c.type_record-x.ensures).arg_below,
      (parts_in c.requires
          c.type_record-x.ensures).res_below,
      c.requires.ready.sheet.well_formed.types_most,
    )

pub bounds-types-a : goal.bounds-types-a
bounds-types-a c =
    omega (
      arith,
      (parts_in c.requires c.type_record-x.ensures).arg_below,
      (parts_in c.requires
          c.type_record-x.ensures).res_below,
      c.requires.ready.sheet.well_formed.types_most,
    )

pub offset_bounds-types-b : goal.offset_bounds-types-b
offset_bounds-types-b c =
    omega (
      arith,
      (parts_in c.requires c.type_record-x.ensures).arg_below,
      (parts_in c.requires
          c.type_record-x.ensures).res_below,
      c.requires.ready.sheet.well_formed.types_most,
    )

pub bounds-types-b : goal.bounds-types-b
bounds-types-b c =
    omega (
      arith,
      (parts_in c.requires c.type_record-x.ensures).arg_below,
      (parts_in c.requires
          c.type_record-x.ensures).res_below,
      c.requires.ready.sheet.well_formed.types_most,
    )

pub returns : goal.returns
returns c = type_bytes_are c.requires c.type_record-x.ensures c.ten.ensures
