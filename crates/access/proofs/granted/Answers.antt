-- A lazy run walks its frames, an eager one looks at the granted set.
use Rattle.std.proofs.Common.{refl}
use Rattle.access.proofs.AccessLaws.{granted_lazy, granted_eager}
use Rattle.access.proofs.granted.Goals as goal

pub returns-then-lazy : goal.returns-then-lazy
returns-then-lazy c =
    record {
      answer_is = granted_lazy _ _ _ c.if-lazy.true _ c.low.ensures
          c.frames_grant.ensures;
      store_is = refl;
    }

pub returns : goal.returns
returns c =
    record {
      answer_is = granted_eager _ _ _ c.if-lazy.false _ c.high.ensures
          c.contains.ensures;
      store_is = refl;
    }
