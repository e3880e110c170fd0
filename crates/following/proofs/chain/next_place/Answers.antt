-- The next place is that of `next_at`, by the term's kind: a call is as `after_call` requires (at_call), and any other term as `after_other` does (at_other).
use Rattle.following.proofs.NextLaws.{at_call, at_other}
use Rattle.following.proofs.chain.next_place.Goals as goal

pub after_call-requires : goal.after_call-requires
after_call-requires c = at_call c.requires c.term-x.ensures c.if-x-eq5.true

pub after_other-requires : goal.after_other-requires
after_other-requires c = at_other c.requires c.term-x.ensures c.if-x-eq5.false
