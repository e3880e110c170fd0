-- A law for each way out: equal types, a first or a second that is no function, a pair that is known, latent sets, arguments, results. The definition
-- compares arguments before latent sets; both have to hold, so that the order changes nothing (sub_latent). What falls is the sum of the two types' numbers:
-- a function type's argument and result have lower numbers than the type (args_fall, results_fall). What is noted at the end is so (sub_noted), so that the
-- table stays right.
use native.Mathlib.Omega.{arith}
use mathlib.Core.Path.{sym, ◌∙◌}
use Rattle.subtyping.proofs.SubtypeLaws.{small, sub_known, sub_equal, sub_left, sub_right, args_fall, results_fall, sub_latent, sub_args, sub_results, sub_noted}
use Rattle.subtyping.proofs.subtypes.+subtype.Goals as goal

pub returns-then-a-b : goal.returns-then-a-b
returns-then-a-b t c = record { is = sub_equal c.requires.sheet _ _ c.if-a-b.true; known = c.requires.known }

pub returns-then-not-is_function : goal.returns-then-not-is_function
returns-then-not-is_function t c =
    record {
      is = sub_left c.requires.sheet _ _ c.if-a-b.false c.is_function.ensures
          c.if-not-is_function.true;
      known = c.requires.known;
    }

pub returns-then-not-is_function-2 : goal.returns-then-not-is_function-2
returns-then-not-is_function-2 t c =
    record {
      is = sub_right c.requires.sheet _ _ c.if-a-b.false c.is_function.ensures
          c.if-not-is_function.false c.is_function-2.ensures c.if-not-is_function-2.true;
      known = c.requires.known;
    }

pub knows-requires : goal.knows-requires
knows-requires t c =
    record {
      first_below = small c.requires.sheet _ c.is_function.ensures c.if-not-is_function.false;
      second_below = small c.requires.sheet _ c.is_function-2.ensures c.if-not-is_function-2.false;
    }

pub returns-then-knows : goal.returns-then-knows
returns-then-knows t c =
    record {
      is = sub_known c.requires.sheet _ _ c.requires.known
          (small c.requires.sheet _ c.is_function.ensures c.if-not-is_function.false)
          (small c.requires.sheet _ c.is_function-2.ensures c.if-not-is_function-2.false)
          c.knows.ensures c.if-knows.true;
      known = c.requires.known;
    }

pub returns-then-not-subset : goal.returns-then-not-subset
returns-then-not-subset t c =
    record {
      is = sub_latent c.requires.sheet _ _ c.if-a-b.false c.is_function.ensures c.if-not-is_function.false
          c.is_function-2.ensures c.if-not-is_function-2.false c.type_record-f.ensures
          c.type_record-g.ensures c.subset.ensures c.if-not-subset.true;
      known = c.requires.known;
    }

pub subtype-requires : goal.subtype-requires
subtype-requires t c = (
  omega (
    arith,
    c.decreases,
    args_fall c.requires.sheet _ _ c.if-a-b.false c.is_function.ensures
        c.if-not-is_function.false c.is_function-2.ensures c.if-not-is_function-2.false c.type_record-f.ensures
        c.type_record-g.ensures,
  ),
  c.requires,
)

pub returns-then-not-subtype : goal.returns-then-not-subtype
returns-then-not-subtype t c =
    record {
      is = sub_args c.requires.sheet _ _ c.if-a-b.false c.is_function.ensures c.if-not-is_function.false
          c.is_function-2.ensures c.if-not-is_function-2.false c.type_record-f.ensures
          c.type_record-g.ensures c.subset.ensures c.if-not-subset.false
          c.subtype.ensures.is c.if-not-subtype.true;
      known = c.subtype.ensures.known;
    }

pub subtype-requires-2 : goal.subtype-requires-2
subtype-requires-2 t c = (
  omega (
    arith,
    c.decreases,
    results_fall c.requires.sheet _ _ c.if-a-b.false c.is_function.ensures
        c.if-not-is_function.false c.is_function-2.ensures c.if-not-is_function-2.false c.type_record-f.ensures
        c.type_record-g.ensures,
  ),
  record { sheet = c.requires.sheet; known = c.subtype.ensures.known },
)

pub returns-then-not-subtype-2 : goal.returns-then-not-subtype-2
returns-then-not-subtype-2 t c =
    record {
      is = sym c.if-not-subtype-2.true ∙ sub_results c.requires.sheet _ _ c.if-a-b.false c.is_function.ensures
          c.if-not-is_function.false c.is_function-2.ensures c.if-not-is_function-2.false c.type_record-f.ensures
          c.type_record-g.ensures c.subset.ensures c.if-not-subset.false c.subtype.ensures.is
          c.if-not-subtype.false c.subtype-2.ensures.is;
      known = c.subtype-2.ensures.known;
    }

pub note-requires : goal.note-requires
note-requires t c =
    record {
      first_below = small c.requires.sheet _ c.is_function.ensures c.if-not-is_function.false;
      second_below = small c.requires.sheet _ c.is_function-2.ensures c.if-not-is_function-2.false;
    }

pub returns : goal.returns
returns t c =
    sub_noted c.requires.sheet _ _ c.if-a-b.false c.is_function.ensures c.if-not-is_function.false
    c.is_function-2.ensures c.if-not-is_function-2.false c.type_record-f.ensures c.type_record-g.ensures
    c.subset.ensures c.if-not-subset.false c.subtype.ensures.is c.if-not-subtype.false
    c.subtype-2.ensures.is c.if-not-subtype-2.false c.subtype-2.ensures.known c.note.ensures
