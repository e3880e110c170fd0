-- A lazy run opens a frame, an eager one meets the granted set with the principal's.
use Rattle.access.proofs.AccessLaws.{sign_lazy, sign_eager}
use Rattle.access.proofs.sign.Goals as goal

pub returns-then-lazy : goal.returns-then-lazy
returns-then-lazy c =
    sign_lazy _ _ _ c.if-lazy.true _ c.low-at.ensures c.put_number.ensures
    c.put_number-then-lazy.ensures

pub returns : goal.returns
returns c =
    sign_eager _ _ _ c.if-lazy.false _ c.high.ensures c.meet.ensures
    c.pair.ensures
