-- By the kind: a check and a test name their privilege, a post the guard of its channel, and no other kind names any.
use Rattle.naming.proofs.NamingLaws.{check_names, test_names, post_names, no_names}
use Rattle.std.proofs.Common.{arith}
use Rattle.naming.proofs.term_names.Goals as goal

pub returns-in-7 : goal.returns-in-7
returns-in-7 c = check_names c.requires c.term-x.ensures c.in-7.is

pub returns-in-10 : goal.returns-in-10
returns-in-10 c = test_names c.requires c.term-x.ensures c.in-10.is

pub returns-in-14 : goal.returns-in-14
returns-in-14 c = post_names c.requires c.term-x.ensures c.in-14.is c.guard.ensures

pub returns-in_default : goal.returns-in_default
returns-in_default c = no_names c.requires c.term-x.ensures (λ e. omega arith) (λ e. omega arith) (λ e. omega arith)
