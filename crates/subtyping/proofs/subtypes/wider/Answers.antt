-- The second type if the first is a subtype of it, or else the first if the second is one of it, or else none. The table stays right.
use Rattle.subtyping.proofs.SubtypeLaws.{wider_first_fits, wider_second_fits, wider_neither}
use Rattle.subtyping.proofs.subtypes.wider.Goals as goal

pub subtype-requires : goal.subtype-requires
subtype-requires c = c.requires

pub returns-then-subtype : goal.returns-then-subtype
returns-then-subtype c = record { is = wider_first_fits _ _ _ c.subtype.ensures.is c.if-subtype.true; known = c.subtype.ensures.known }

pub subtype-requires-2 : goal.subtype-requires-2
subtype-requires-2 c = record { sheet = c.requires.sheet; known = c.subtype.ensures.known }

pub returns-then-subtype-2 : goal.returns-then-subtype-2
returns-then-subtype-2 c =
    record {
      is = wider_second_fits _ _ _ c.subtype.ensures.is c.if-subtype.false c.subtype-2.ensures.is
          c.if-subtype-2.true;
      known = c.subtype-2.ensures.known;
    }

pub returns : goal.returns
returns c =
    record {
      is = wider_neither _ _ _ c.subtype.ensures.is c.if-subtype.false c.subtype-2.ensures.is
          c.if-subtype-2.false;
      known = c.subtype-2.ensures.known;
    }
