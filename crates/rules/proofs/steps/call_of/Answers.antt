-- The judgement is `call_step`: 25 if the argument's type is no subtype of the function's argument type; or the function's result type, with the union of
-- the latent set and both needs. The table stays right.
use Rattle.rules.proofs.StepLaws.{call_unfit, call_fits}
use Rattle.rules.proofs.steps.call_of.Goals as goal

pub returns-then-not-subtype : goal.returns-then-not-subtype
returns-then-not-subtype c =
    record {
      is = call_unfit c.requires.sheet c.in_ok-ty.was _ _ _ c.is_function.ensures c.if-not-is_function.false
          c.type_record-f.ensures c.subtype.ensures.is c.if-not-subtype.true;
      known = c.subtype.ensures.known;
    }

pub returns : goal.returns
returns c =
    record {
      is = call_fits c.requires.sheet c.in_ok-ty.was _ _ _ c.is_function.ensures c.if-not-is_function.false
          c.type_record-f.ensures c.subtype.ensures.is c.if-not-subtype.false c.union-both.ensures
          c.union.ensures;
      known = c.subtype.ensures.known;
    }
