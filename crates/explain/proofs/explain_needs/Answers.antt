-- A privilege above 31 is 30; one that is not among the needs is not needed; of one that is, the root needs it, and the chain is traced.
use Rattle.explain.proofs.EntryLaws.{too_high, needed_not, needed, needs_followable}
use Rattle.explain.proofs.explain_needs.Goals as goal

pub returns-then-privilege-gt-MAX_PRIVILEGE_NUMBER : goal.returns-then-privilege-gt-MAX_PRIVILEGE_NUMBER
returns-then-privilege-gt-MAX_PRIVILEGE_NUMBER c = too_high c.args.s.now c.args.privilege _ c.if-privilege-gt-MAX_PRIVILEGE_NUMBER.true c.without_chain.ensures

pub follow-requires : goal.follow-requires
follow-requires c = needs_followable c.requires c.if-privilege-gt-MAX_PRIVILEGE_NUMBER.false c.contains.ensures c.if-contains.true

pub returns-then-contains : goal.returns-then-contains
returns-then-contains c =
    needed c.args.s.now c.args.privilege _ c.if-privilege-gt-MAX_PRIVILEGE_NUMBER.false c.contains.ensures
    c.if-contains.true c.follow.ensures

pub returns : goal.returns
returns c =
    needed_not c.args.s.now c.args.privilege _ c.if-privilege-gt-MAX_PRIVILEGE_NUMBER.false c.contains.ensures
    c.if-contains.false c.without_chain-2.ensures
