-- A lazy run writes its first frame's enabled set, an eager one nothing.
use Rattle.access.proofs.AccessLaws.{restore_lazy, restore_eager}
use Rattle.access.proofs.restore.Goals as goal

pub returns-then-lazy : goal.returns-then-lazy
returns-then-lazy c =
    restore_lazy _ _ _ c.if-lazy.true c.first_enabled.ensures _
    c.put_number.ensures

pub returns-else-lazy : goal.returns-else-lazy
returns-else-lazy c = restore_eager _ _ _ c.if-lazy.false _
