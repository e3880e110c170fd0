-- The terms written are the first of the chain, and what follows is the chain from the place that is reached.
use Rattle.following.proofs.FollowLaws.{FollowedTo}
use Rattle.following.proofs.chain.follow.Given as goal

abbrev pub invariant-loop-len : goal.invariant-loop-len
invariant-loop-len l = FollowedTo l.s l.c l.p l.known l.terms l.at l.len
