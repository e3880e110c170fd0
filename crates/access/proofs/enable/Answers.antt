-- A lazy run adds the privilege to its first frame, an eager one to the granted set if the signing principal may use it.
use Rattle.access.proofs.AccessLaws.{enable_lazy, enable_yes, enable_no}
use Rattle.access.proofs.enable.Goals as goal

pub returns-then-lazy : goal.returns-then-lazy
returns-then-lazy c =
    enable_lazy _ _ _ c.if-lazy.true c.first_enabled-at.ensures _ c.number_at.ensures
    c.insert.ensures c.put_number.ensures

pub returns-then-contains : goal.returns-then-contains
returns-then-contains c =
    enable_yes _ _ _ c.if-lazy.false _ c.low-authorised.ensures c.contains.ensures
    c.if-contains.true c.high.ensures c.insert-then-contains.ensures c.pair.ensures

pub returns : goal.returns
returns c =
    enable_no _ _ _ c.if-lazy.false _ c.low-authorised.ensures c.contains.ensures
    c.if-contains.false
