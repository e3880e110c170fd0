-- There is no guard, checks are passed over, or it is decided and noted; the frames stay as they are.
use Rattle.machine.proofs.StepLaws.{guard_none, guard_passed_lem, guard_decided}
use Rattle.machine.proofs.steps.guard_passes.Goals as goal

pub returns-then-guard : goal.returns-then-guard
returns-then-guard c = guard_none _ _ _ _ _ _ c.guard_of-guard.ensures c.if-guard.true

pub returns-then-not-enforce : goal.returns-then-not-enforce
returns-then-not-enforce c = guard_passed_lem _ _ _ _ _ _ c.guard_of-guard.ensures c.if-guard.false c.if-not-enforce.true

pub returns : goal.returns
returns c =
    guard_decided _ _ _ _ _ _ c.guard_of-guard.ensures c.if-guard.false c.if-not-enforce.false
    c.granted-yes.ensures.answer_is c.granted-yes.ensures.store_is c.note.ensures
