-- The parts of both types are lower than t (upper_parts, lower_parts), so that their numbers are in the table. Two of them are equal where the heads
-- are (alike_is).
use native.Mathlib.Omega.{arith}
use Rattle.renumbering.proofs.TypeLaws.{upper_parts, lower_parts, alike_is}
use Rattle.renumbering.proofs.types.alike.Goals as goal

pub overflow_cast-xa : goal.overflow_cast-xa
overflow_cast-xa c =
    omega (
      arith,
      (upper_parts c.requires c.type_record-x.ensures c.type_record-y.ensures).arg_below,
      (upper_parts c.requires
          c.type_record-x.ensures c.type_record-y.ensures).res_below,
      (lower_parts c.requires c.type_record-x.ensures
          c.type_record-y.ensures).arg_below,
      (lower_parts c.requires c.type_record-x.ensures
          c.type_record-y.ensures).res_below,
      c.requires.merging.inside,
      c.requires.merging.sheet.well_formed.types_most,
    )

pub overflow_cast-ya : goal.overflow_cast-ya
overflow_cast-ya c =
    omega (
      arith,
      (upper_parts c.requires c.type_record-x.ensures c.type_record-y.ensures).arg_below,
      (upper_parts c.requires
          c.type_record-x.ensures c.type_record-y.ensures).res_below,
      (lower_parts c.requires c.type_record-x.ensures
          c.type_record-y.ensures).arg_below,
      (lower_parts c.requires c.type_record-x.ensures
          c.type_record-y.ensures).res_below,
      c.requires.merging.inside,
      c.requires.merging.sheet.well_formed.types_most,
    )

pub overflow_cast-xr : goal.overflow_cast-xr
overflow_cast-xr c =
    omega (
      arith,
      (upper_parts c.requires c.type_record-x.ensures c.type_record-y.ensures).arg_below,
      (upper_parts c.requires
          c.type_record-x.ensures c.type_record-y.ensures).res_below,
      (lower_parts c.requires c.type_record-x.ensures
          c.type_record-y.ensures).arg_below,
      (lower_parts c.requires c.type_record-x.ensures
          c.type_record-y.ensures).res_below,
      c.requires.merging.inside,
      c.requires.merging.sheet.well_formed.types_most,
    )

pub overflow_cast-yr : goal.overflow_cast-yr
overflow_cast-yr c =
    omega (
      arith,
      (upper_parts c.requires c.type_record-x.ensures c.type_record-y.ensures).arg_below,
      (upper_parts c.requires
          c.type_record-x.ensures c.type_record-y.ensures).res_below,
      (lower_parts c.requires c.type_record-x.ensures
          c.type_record-y.ensures).arg_below,
      (lower_parts c.requires c.type_record-x.ensures
          c.type_record-y.ensures).res_below,
      c.requires.merging.inside,
      c.requires.merging.sheet.well_formed.types_most,
    )

pub offset_bounds-numbers-ya : goal.offset_bounds-numbers-ya
offset_bounds-numbers-ya c =
    omega (
      arith,
      (upper_parts c.requires c.type_record-x.ensures c.type_record-y.ensures).arg_below,
      (upper_parts c.requires
          c.type_record-x.ensures c.type_record-y.ensures).res_below,
      (lower_parts c.requires c.type_record-x.ensures
          c.type_record-y.ensures).arg_below,
      (lower_parts c.requires c.type_record-x.ensures
          c.type_record-y.ensures).res_below,
      c.requires.merging.inside,
      c.requires.merging.sheet.well_formed.types_most,
    )

pub bounds-numbers-ya : goal.bounds-numbers-ya
bounds-numbers-ya c =
    omega (
      arith,
      (upper_parts c.requires c.type_record-x.ensures c.type_record-y.ensures).arg_below,
      (upper_parts c.requires
          c.type_record-x.ensures c.type_record-y.ensures).res_below,
      (lower_parts c.requires c.type_record-x.ensures
          c.type_record-y.ensures).arg_below,
      (lower_parts c.requires c.type_record-x.ensures
          c.type_record-y.ensures).res_below,
      c.requires.merging.inside,
      c.requires.merging.sheet.well_formed.types_most,
    )

pub offset_bounds-numbers-xa : goal.offset_bounds-numbers-xa
offset_bounds-numbers-xa c =
    omega (
      arith,
      (upper_parts c.requires c.type_record-x.ensures c.type_record-y.ensures).arg_below,
      (upper_parts c.requires
          c.type_record-x.ensures c.type_record-y.ensures).res_below,
      (lower_parts c.requires c.type_record-x.ensures
          c.type_record-y.ensures).arg_below,
      (lower_parts c.requires c.type_record-x.ensures
          c.type_record-y.ensures).res_below,
      c.requires.merging.inside,
      c.requires.merging.sheet.well_formed.types_most,
    )

pub bounds-numbers-xa : goal.bounds-numbers-xa
bounds-numbers-xa c =
    omega (
      arith,
      (upper_parts c.requires c.type_record-x.ensures c.type_record-y.ensures).arg_below,
      (upper_parts c.requires
          c.type_record-x.ensures c.type_record-y.ensures).res_below,
      (lower_parts c.requires c.type_record-x.ensures
          c.type_record-y.ensures).arg_below,
      (lower_parts c.requires c.type_record-x.ensures
          c.type_record-y.ensures).res_below,
      c.requires.merging.inside,
      c.requires.merging.sheet.well_formed.types_most,
    )

pub offset_bounds-numbers-yr : goal.offset_bounds-numbers-yr
offset_bounds-numbers-yr c =
    omega (
      arith,
      (upper_parts c.requires c.type_record-x.ensures c.type_record-y.ensures).arg_below,
      (upper_parts c.requires
          c.type_record-x.ensures c.type_record-y.ensures).res_below,
      (lower_parts c.requires c.type_record-x.ensures
          c.type_record-y.ensures).arg_below,
      (lower_parts c.requires c.type_record-x.ensures
          c.type_record-y.ensures).res_below,
      c.requires.merging.inside,
      c.requires.merging.sheet.well_formed.types_most,
    )

pub bounds-numbers-yr : goal.bounds-numbers-yr
bounds-numbers-yr c =
    omega (
      arith,
      (upper_parts c.requires c.type_record-x.ensures c.type_record-y.ensures).arg_below,
      (upper_parts c.requires
          c.type_record-x.ensures c.type_record-y.ensures).res_below,
      (lower_parts c.requires c.type_record-x.ensures
          c.type_record-y.ensures).arg_below,
      (lower_parts c.requires c.type_record-x.ensures
          c.type_record-y.ensures).res_below,
      c.requires.merging.inside,
      c.requires.merging.sheet.well_formed.types_most,
    )

pub offset_bounds-numbers-xr : goal.offset_bounds-numbers-xr
offset_bounds-numbers-xr c =
    omega (
      arith,
      (upper_parts c.requires c.type_record-x.ensures c.type_record-y.ensures).arg_below,
      (upper_parts c.requires
          c.type_record-x.ensures c.type_record-y.ensures).res_below,
      (lower_parts c.requires c.type_record-x.ensures
          c.type_record-y.ensures).arg_below,
      (lower_parts c.requires c.type_record-x.ensures
          c.type_record-y.ensures).res_below,
      c.requires.merging.inside,
      c.requires.merging.sheet.well_formed.types_most,
    )

pub bounds-numbers-xr : goal.bounds-numbers-xr
bounds-numbers-xr c =
    omega (
      arith,
      (upper_parts c.requires c.type_record-x.ensures c.type_record-y.ensures).arg_below,
      (upper_parts c.requires
          c.type_record-x.ensures c.type_record-y.ensures).res_below,
      (lower_parts c.requires c.type_record-x.ensures
          c.type_record-y.ensures).arg_below,
      (lower_parts c.requires c.type_record-x.ensures
          c.type_record-y.ensures).res_below,
      c.requires.merging.inside,
      c.requires.merging.sheet.well_formed.types_most,
    )

pub returns : goal.returns
returns c = alike_is c.requires c.type_record-x.ensures c.type_record-y.ensures
