-- The terms written are the first of the chain, and what follows is the chain from the place that is reached.
use mathlib.Core.Path.{refl}
use native.Mathlib.Omega.{arith}
use Rattle.checker.proofs.VerdictLaws.{some_terms}
use Rattle.following.proofs.FollowLaws.{root_followed, place_more, place_last, place_none}
use Rattle.following.proofs.chain.follow.Goals as goal

pub root-at-requires : goal.root-at-requires
root-at-requires c = some_terms c.requires.sheet

pub loop-len-init : goal.loop-len-init
loop-len-init c = root_followed c.requires c.root-at.ensures refl refl

pub next_place-requires : goal.next_place-requires
next_place-requires c = c.loop-len.invariant.following

pub returns-in_default : goal.returns-in_default
returns-in_default c = place_last c.loop-len.invariant c.loop-len-test.true c.next_place.ensures c.in_default.is

pub loop-len-preserved : goal.loop-len-preserved
loop-len-preserved c = place_more c.loop-len.invariant c.loop-len-test.true c.next_place.ensures c.in-Some.is

pub returns : goal.returns
returns c = place_none c.loop-len.invariant (omega arith)
