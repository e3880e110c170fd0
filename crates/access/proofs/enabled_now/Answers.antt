-- What a lazy run restores is its first frame's enabled set; an eager one restores nothing.
use Rattle.std.proofs.Common.{refl}
use Rattle.access.proofs.AccessLaws.{enabled_lazy, enabled_eager}
use Rattle.access.proofs.enabled_now.Goals as goal

pub returns-then-lazy : goal.returns-then-lazy
returns-then-lazy c =
    record {
      answer_is = enabled_lazy _ _ _ c.if-lazy.true c.first_enabled.ensures
          c.number_at.ensures;
      store_is = refl;
    }

pub returns : goal.returns
returns c = record { answer_is = enabled_eager _ _ _ c.if-lazy.false; store_is = refl }
