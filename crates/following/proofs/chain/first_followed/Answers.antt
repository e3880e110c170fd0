-- A test of the privilege has no first child that is followed; that of any other term is its own.
use Rattle.following.proofs.NextLaws.{yes_branch, other_test, no_test}
use Rattle.following.proofs.chain.first_followed.Goals as goal
use Rattle.following.proofs.chain.first_followed.Goals.{else-x-eq10-via-then-x-eq10+else-x-p, else-x-eq10-via-else-x-eq10}

pub returns-then-x-p : goal.returns-then-x-p
returns-then-x-p c = yes_branch c.requires c.term-x.ensures _ c.if-x-eq10.true c.if-x-p.true

pub returns : goal.returns
returns c = elim c.else-x-eq10.branch [
  | else-x-eq10-via-then-x-eq10+else-x-p w ↦ other_test c.requires c.term-x.ensures _ w.if-x-eq10.true w.if-x-p.false c.first_child.ensures
  | else-x-eq10-via-else-x-eq10 w ↦ no_test c.requires c.term-x.ensures _ w.if-x-eq10.false c.first_child.ensures
]
