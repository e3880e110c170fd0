-- A law for each arm of the match on the kind: at_kind for a single kind, one each for 1 to 2, 7 to 8 and 11 to 13, and kinds above 14 are wrong. An arm
-- of several kinds has its lower bound from the single kinds and the lower arms, which did not match.
use native.Mathlib.Omega.{arith}
use Rattle.termrecords.proofs.TermLaws.{at_kind, kinds_1_2, kinds_7_8, kinds_11_13, kinds_above}
use Rattle.termrecords.proofs.shape_of.Goals as goal

pub returns-in-0 : goal.returns-in-0
returns-in-0 c = at_kind c.args.c c.args.t c.args.r 0 c.in-0.is c.then_some.ensures

pub returns-in-3 : goal.returns-in-3
returns-in-3 c = at_kind c.args.c c.args.t c.args.r 3 c.in-3.is c.then_some-in-3.ensures

pub returns-in-4 : goal.returns-in-4
returns-in-4 c = at_kind c.args.c c.args.t c.args.r 4 c.in-4.is c.then_some-in-4.ensures

pub returns-in-5 : goal.returns-in-5
returns-in-5 c = at_kind c.args.c c.args.t c.args.r 5 c.in-5.is c.then_some-in-5.ensures

pub returns-in-6 : goal.returns-in-6
returns-in-6 c = at_kind c.args.c c.args.t c.args.r 6 c.in-6.is c.then_some-in-6.ensures

pub returns-in-9 : goal.returns-in-9
returns-in-9 c = at_kind c.args.c c.args.t c.args.r 9 c.in-9.is c.then_some-in-9.ensures

pub returns-in-10 : goal.returns-in-10
returns-in-10 c = at_kind c.args.c c.args.t c.args.r 10 c.in-10.is c.then_some-in-10.ensures

pub returns-in-14 : goal.returns-in-14
returns-in-14 c = at_kind c.args.c c.args.t c.args.r 14 c.in-14.is c.then_some-in-14.ensures

pub returns-in-1-to-2 : goal.returns-in-1-to-2
returns-in-1-to-2 c = kinds_1_2 c.args.c c.args.t c.args.r (omega arith) (omega arith) c.then_some-in-1-to-2.ensures

pub returns-in-7-to-8 : goal.returns-in-7-to-8
returns-in-7-to-8 c = kinds_7_8 c.args.c c.args.t c.args.r (omega arith) (omega arith) c.then_some-in-7-to-8.ensures

pub returns-in-11-to-13 : goal.returns-in-11-to-13
returns-in-11-to-13 c = kinds_11_13 c.args.c c.args.t c.args.r (omega arith) (omega arith) c.then_some-in-11-to-13.ensures

pub returns-in_default : goal.returns-in_default
returns-in_default c = kinds_above c.args.c c.args.t c.args.r (omega arith)
