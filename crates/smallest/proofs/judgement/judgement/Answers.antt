-- By the kind: the judgement of the term from those of the children that the kind has (JudgementLaws).
use native.Mathlib.Omega.{arith}
use Rattle.checker.proofs.TermLaws.{kind_most, post_guard_byte, check_privilege, enable_privilege, test_privilege}
use Rattle.smallest.proofs.JudgementLaws.{ready_at, leaf_judged, check_judged, enable_judged, sign_judged, post_judged, call_judged, test_judged, binary_judged, if_judged, function_judged, letrec_judged}
use Rattle.smallest.proofs.judgement.judgement.Goals as goal

pub checked-requires : goal.checked-requires
checked-requires c = check_privilege (ready_at c.requires c.term-x.ensures) c.in-7.is

pub enabled-requires : goal.enabled-requires
enabled-requires c = enable_privilege (ready_at c.requires c.term-x.ensures) c.in-8.is

pub test-requires : goal.test-requires
test-requires c =
    record {
      judging = record { sheet = c.requires.ready.sheet; known = c.requires.known };
      privilege = test_privilege (ready_at c.requires c.term-x.ensures) c.in-10.is;
    }

pub posted-requires : goal.posted-requires
posted-requires c =
    let ready = ready_at c.requires c.term-x.ensures in
    let h = kind_most ready in
    post_guard_byte ready (omega (arith, h)) c.guard.ensures

pub returns-in-3 : goal.returns-in-3
returns-in-3 c =
    record {
      is = function_judged c.requires c.term-x.ensures _ c.type_record.ensures c.in-3.is c.function_of.ensures;
      known = c.requires.known;
    }

pub returns-in-4 : goal.returns-in-4
returns-in-4 c =
    record {
      is = letrec_judged c.requires c.term-x.ensures _ c.type_record-in-4.ensures c.in-4.is c.letrec.ensures;
      known = c.requires.known;
    }

pub returns-in-5 : goal.returns-in-5
returns-in-5 c =
    record {
      is = call_judged c.requires c.term-x.ensures c.in-5.is c.call.ensures.is;
      known = c.call.ensures.known;
    }

pub returns-in-6 : goal.returns-in-6
returns-in-6 c =
    record {
      is = if_judged c.requires c.term-x.ensures c.in-6.is c.branches.ensures.is;
      known = c.branches.ensures.known;
    }

pub returns-in-7 : goal.returns-in-7
returns-in-7 c =
    record {
      is = check_judged c.requires c.term-x.ensures c.in-7.is c.checked.ensures;
      known = c.requires.known;
    }

pub returns-in-8 : goal.returns-in-8
returns-in-8 c =
    record {
      is = enable_judged c.requires c.term-x.ensures c.in-8.is c.authority.ensures c.enabled.ensures;
      known = c.requires.known;
    }

pub returns-in-9 : goal.returns-in-9
returns-in-9 c =
    record {
      is = sign_judged c.requires c.term-x.ensures c.in-9.is c.authority-in-9.ensures c.signed.ensures;
      known = c.requires.known;
    }

pub returns-in-10 : goal.returns-in-10
returns-in-10 c =
    record {
      is = test_judged c.requires c.term-x.ensures c.in-10.is c.test.ensures.is;
      known = c.test.ensures.known;
    }

pub returns-in-0-to-2 : goal.returns-in-0-to-2
returns-in-0-to-2 c =
    record {
      is = leaf_judged c.requires c.term-x.ensures (omega arith) c.leaf.ensures;
      known = c.requires.known;
    }

pub returns-in-11-to-13 : goal.returns-in-11-to-13
returns-in-11-to-13 c =
    record {
      is = binary_judged c.requires c.term-x.ensures (omega arith) (omega arith) c.binary.ensures;
      known = c.requires.known;
    }

pub returns-in_default : goal.returns-in_default
returns-in_default c =
    let h = kind_most (ready_at c.requires c.term-x.ensures) in
    record {
      is = post_judged c.requires c.term-x.ensures (omega (arith, h)) c.guard.ensures c.posted.ensures;
      known = c.requires.known;
    }
