-- The types are looked at from the nearest on: none of those in the groups passed has the record of t, so that the types before these groups decide as all
-- before t. A group of which no record has the eight bytes of t is passed (fresh_group); where one has, or no whole group is left, `differs` decides by both
-- words.
use Rattle.std.proofs.Common.{◌+◌, ◌*◌, ◌-◌, ◌%◌, ◌≡◌, sym, ap, ◌∙◌, arith}
use Rattle.program.specs.Decoding.{fresh}
use Rattle.typerecords.proofs.TypeLaws.{fresh_group}
use Rattle.typerecords.proofs.is_fresh.Goals as goal

pub returns-then-met : goal.returns-then-met
returns-then-met c = c.differs.ensures ∙ sym c.loop-group.invariant.rest_is

pub loop-group-preserved : goal.loop-group-preserved
loop-group-preserved c =
    let next : c.args.t - 8 * c.loop-group.group - 8 ≡ c.args.t - 8 * (c.loop-group.group + 1) = omega arith in
    record {
      below = omega arith;
      rest_is = c.loop-group.invariant.rest_is ∙ fresh_group c.args.s.now (record { below = λ i. (c.type_inv.s i).fits }) _ _
          c.requires _ 8 c.eight_bytes-eight.ensures (omega arith) (c.met.ensures c.if-met.false) ∙ ap (fresh c.args.s.now c.args.t) next;
    }

pub returns : goal.returns
returns c =
    let last : c.args.t % 8 ≡ c.args.t - 8 * c.loop-group.group = omega arith in
    c.differs-2.ensures ∙ ap (fresh c.args.s.now c.args.t) last ∙ sym c.loop-group.invariant.rest_is
