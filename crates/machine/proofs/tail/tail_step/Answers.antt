-- A letrec, check, sign or test is the tail step that it makes: a law for each of its seven ends.
use Rattle.machine.proofs.TailLaws.{tail_full, tail_cell, tail_sign, tail_passed, tail_allowed, tail_refused, tail_test, only_check, privileged, skipped, not_skipped}
use Rattle.machine.proofs.tail.tail_step.Goals as goal

pub returns-then-made-eq0 : goal.returns-then-made-eq0
returns-then-made-eq0 c =
    tail_full _ _ _ _ _ _ _ _ c.kind_of-kind.ensures c.if-kind-eq4.true c.third_of.ensures c.bind-made.ensures
    c.if-made-eq0.true c.stop.ensures c.halts.ensures

pub returns-then-kind-eq4 : goal.returns-then-kind-eq4
returns-then-kind-eq4 c =
    tail_cell _ _ _ _ _ _ _ _ c.kind_of-kind.ensures c.if-kind-eq4.true c.third_of-then-kind-eq4.ensures c.bind-made.ensures
    c.if-made-eq0.false c.next_cell-own.ensures c.second_of.ensures c.function.ensures c.goes.ensures

pub returns-then-kind-eq9 : goal.returns-then-kind-eq9
returns-then-kind-eq9 c =
    tail_sign _ _ _ _ _ _ _ _ c.kind_of-kind.ensures c.if-kind-eq9.true c.first_of.ensures c.authority_of.ensures
    c.sign.ensures.answer_is c.sign.ensures.store_is c.goes-then-kind-eq9.ensures

pub returns-then-kind-counters : goal.returns-then-kind-counters
returns-then-kind-counters c =
    let skip = skipped _ _ c.if-kind-counters.true in tail_passed _ _ _ _ _ _ _ _ c.kind_of-kind.ensures skip.0
    c.first_of-then-kind-counters.ensures skip.1 c.goes-then-kind-counters.ensures

pub granted-yes-requires : goal.granted-yes-requires
granted-yes-requires c =
    privileged _ c.kind_of-kind.ensures c.requires.kind c.if-kind-eq4.false c.if-kind-eq9.false c.requires.privilege
    c.small_of-p.ensures

pub returns-then-kind-eq10 : goal.returns-then-kind-eq10
returns-then-kind-eq10 c =
    tail_test _ _ _ _ _ _ _ _ c.kind_of-kind.ensures c.if-kind-eq10.true c.small_of-p.ensures c.granted-yes.ensures.answer_is
    c.granted-yes.ensures.store_is c.note.ensures c.first_of-then-kind-eq10.ensures c.second_of-then-kind-eq10.ensures
    c.choose.ensures c.goes-then-kind-eq10.ensures

pub returns-then-yes : goal.returns-then-yes
returns-then-yes c =
    let check = only_check _ c.kind_of-kind.ensures c.requires.kind c.if-kind-eq4.false c.if-kind-eq9.false
    c.if-kind-eq10.false in tail_allowed _ _ _ _ _ _ _ _ c.kind_of-kind.ensures check c.first_of-then-yes.ensures
    (not_skipped _ _ check c.if-kind-counters.false) c.small_of-p.ensures c.granted-yes.ensures.answer_is
    c.granted-yes.ensures.store_is c.note.ensures c.if-yes.true c.goes-then-yes.ensures

pub returns : goal.returns
returns c =
    let check = only_check _ c.kind_of-kind.ensures c.requires.kind c.if-kind-eq4.false c.if-kind-eq9.false
    c.if-kind-eq10.false in tail_refused _ _ _ _ _ _ _ _ c.kind_of-kind.ensures check c.first_of-2.ensures
    (not_skipped _ _ check c.if-kind-counters.false) c.small_of-p.ensures c.granted-yes.ensures.answer_is
    c.granted-yes.ensures.store_is c.note.ensures c.if-yes.false c.stop-2.ensures
    c.halts-2.ensures
