-- Each part is written right behind the one before it, and together they are the lean sheet (sheet_put). The buffer has room for all of it (sheet_room) and
-- keeps its length.
use Prim.Native.Nat.{◌+◌, ◌*◌}
use native.Mathlib.Omega.{arith}
use lib.Seq.{length-take-le}
use Rattle.leanwriting.proofs.WriteLaws.{size_small, prefix_in, sheet_room, sheet_put}
use Rattle.leanwriting.proofs.write.put_sheet.Goals as goal

pub overflow_cast-at : goal.overflow_cast-at
overflow_cast-at c = omega (arith, size_small c.requires.ready)

pub overflow_mul-at : goal.overflow_mul-at
overflow_mul-at c = omega (arith, size_small c.requires.ready)

pub overflow_add-at : goal.overflow_add-at
overflow_add-at c = omega (arith, size_small c.requires.ready)

pub put-requires : goal.put-requires
put-requires c =
    omega (
      arith,
      sheet_room c.requires.ready c.args.buffer.now c.requires.room,
      length-take-le (8 + 4 * c.args.c.principals) c.args.s.now (prefix_in c.requires.ready),
    )

pub overflow_mul-y : goal.overflow_mul-y
overflow_mul-y c = omega (arith, size_small c.requires.ready)

pub put_head-requires : goal.put_head-requires
put_head-requires c = omega (arith, sheet_room c.requires.ready c.args.buffer.now c.requires.room, c.put.auto.buffer)

pub overflow_add-at-2 : goal.overflow_add-at-2
overflow_add-at-2 c = omega (arith, size_small c.requires.ready)

pub put_types-requires : goal.put_types-requires
put_types-requires c =
    record {
      ready = record { sheet = c.requires.ready.sheet; table = c.requires.ready.types_numbered.table };
      room = omega (
        arith,
        sheet_room c.requires.ready c.args.buffer.now c.requires.room,
        c.requires.ready.types_numbered.count_is,
        c.put.auto.buffer,
        c.put_head.auto.buffer,
      );
    }

pub overflow_add-behind : goal.overflow_add-behind
overflow_add-behind c = omega (arith, size_small c.requires.ready)

pub overflow_cast-behind : goal.overflow_cast-behind
overflow_cast-behind c = omega (arith, size_small c.requires.ready)

pub overflow_mul-behind : goal.overflow_mul-behind
overflow_mul-behind c = omega (arith, size_small c.requires.ready)

pub overflow_add-behind-2 : goal.overflow_add-behind-2
overflow_add-behind-2 c = omega (arith, size_small c.requires.ready)

pub overflow_mul-m : goal.overflow_mul-m
overflow_mul-m c = omega (arith, size_small c.requires.ready)

pub put_head-requires-2 : goal.put_head-requires-2
put_head-requires-2 c =
    omega (
      arith,
      sheet_room c.requires.ready c.args.buffer.now c.requires.room,
      c.put.auto.buffer,
      c.put_head.auto.buffer,
      c.put_types.auto.buffer,
    )

pub overflow_add-behind-3 : goal.overflow_add-behind-3
overflow_add-behind-3 c = omega (arith, size_small c.requires.ready)

pub put_terms-requires : goal.put_terms-requires
put_terms-requires c =
    record {
      ready = record {
        types_ready = record { sheet = c.requires.ready.sheet; table = c.requires.ready.types_numbered.table };
        table = c.requires.ready.terms_numbered.table;
      };
      room = omega (
        arith,
        sheet_room c.requires.ready c.args.buffer.now c.requires.room,
        c.requires.ready.terms_numbered.count_is,
        c.put.auto.buffer,
        c.put_head.auto.buffer,
        c.put_types.auto.buffer,
        c.put_head-2.auto.buffer,
      );
    }

pub shape_of-buffer : goal.shape_of-buffer
shape_of-buffer c =
    omega (
      arith,
      c.put.auto.buffer,
      c.put_head.auto.buffer,
      c.put_types.auto.buffer,
      c.put_head-2.auto.buffer,
      c.put_terms.auto.buffer,
    )

pub returns : goal.returns
returns c =
    sheet_put c.requires.ready c.args.buffer.now c.requires.room c.put.ensures c.put_head.ensures
    c.put_types.ensures c.put_head-2.ensures c.put_terms.ensures
