-- A law for each way out: types 0 and 1 right or wrong; a function type of a wrong form, equal to one before, nested deeper than 12, or right.
-- Its argument and result have lower numbers, so that their depths are in the list, and its own is one more than the larger (depth_is).
use native.Mathlib.Omega.{arith}
use Rattle.program.proofs.Laws.Readable.{fields_ok}
use Rattle.typerecords.proofs.TypeLaws.{table_at, base_depth, form_bad, seen_bad, arg_lower, res_lower, depth_over, depth_is}
use Rattle.typerecords.proofs.type_depth.Goals as goal

pub returns-then-t-lt2 : goal.returns-then-t-lt2
returns-then-t-lt2 c =
    base_depth c.args.s.now c.args.c c.requires.laid c.args.t c.requires.inside c.type_record-r.ensures
    c.if-t-lt2.true c.base_ok.ensures c.then_some.ensures

pub returns-then-not-function_ok : goal.returns-then-not-function_ok
returns-then-not-function_ok c =
    form_bad c.args.s.now c.args.c c.requires.laid c.args.t c.requires.inside c.type_record-r.ensures
    c.if-t-lt2.false c.function_ok.ensures c.if-not-function_ok.true

pub is_fresh-requires : goal.is_fresh-requires
is_fresh-requires c = table_at c.args.s.now c.args.c c.requires.laid c.args.t c.requires.inside

pub returns-then-not-is_fresh : goal.returns-then-not-is_fresh
returns-then-not-is_fresh c =
    seen_bad c.args.s.now c.args.c c.requires.laid c.args.t c.requires.inside c.type_record-r.ensures
    c.if-t-lt2.false c.function_ok.ensures c.is_fresh.ensures c.if-not-is_fresh.true

pub returns-then-d-ge-MAX_TYPE_DEPTH : goal.returns-then-d-ge-MAX_TYPE_DEPTH
returns-then-d-ge-MAX_TYPE_DEPTH c =
    depth_over c.args.s.now c.args.c c.requires.laid c.args.t c.requires.inside c.type_record-r.ensures
    c.if-t-lt2.false c.function_ok.ensures c.is_fresh.ensures c.if-not-function_ok.false
    c.if-not-is_fresh.false c.args.depths.now _ c.requires.depths c.max-d.ensures c.if-d-ge-MAX_TYPE_DEPTH.true

pub returns : goal.returns
returns c =
    depth_is c.args.s.now c.args.c c.requires.laid c.args.t c.requires.inside c.type_record-r.ensures
    c.if-t-lt2.false c.function_ok.ensures c.is_fresh.ensures c.if-not-function_ok.false
    c.if-not-is_fresh.false c.args.depths.now _ c.requires.depths c.max-d.ensures c.if-d-ge-MAX_TYPE_DEPTH.false

pub bounds-depths-arg : goal.bounds-depths-arg
bounds-depths-arg c =
    omega (
      arith,
      arg_lower c.args.s.now c.args.c c.requires.laid c.args.t c.requires.inside c.type_record-r.ensures
          c.if-t-lt2.false c.function_ok.ensures c.is_fresh.ensures c.if-not-function_ok.false
          c.if-not-is_fresh.false,
      c.requires.inside,
      (fields_ok c.args.s.now c.requires.laid.none_found).types_high,
    )

pub bounds-depths-res : goal.bounds-depths-res
bounds-depths-res c =
    omega (
      arith,
      res_lower c.args.s.now c.args.c c.requires.laid c.args.t c.requires.inside c.type_record-r.ensures
          c.if-t-lt2.false c.function_ok.ensures c.is_fresh.ensures c.if-not-function_ok.false
          c.if-not-is_fresh.false,
      c.requires.inside,
      (fields_ok c.args.s.now c.requires.laid.none_found).types_high,
    )
