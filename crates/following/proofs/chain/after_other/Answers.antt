-- After a cause there is none; else the children are tried by their position, and the first that needs the privilege is the next. One of them does
-- (all_left), so that the last that is there is not judged (last_next).
use mathlib.Core.List.{[]}
use mathlib.Core.Path.{refl, ◌∙◌}
use Rattle.following.proofs.NextLaws.{cause_ends, all_left, others_left, child_next, last_next, not_listed}
use Rattle.following.proofs.chain.after_other.Goals as goal

pub returns-then-is_cause : goal.returns-then-is_cause
returns-then-is_cause c = cause_ends _ c.args.at c.is_cause.ensures c.if-is_cause.true

pub returns-then-is_none-2 : goal.returns-then-is_none-2
returns-then-is_none-2 c =
    let every = all_left _ _ c.args.at c.requires.following.needing c.is_cause.ensures c.if-is_cause.false in
    last_next every c.first_followed-first.ensures c.requires.following.privilege c.requires.following.known
    (not_listed c.second_child-second.ensures c.is_none.ensures c.if-is_none.true _
    ∙ not_listed c.third_child-third.ensures c.is_none-then-is_none.ensures c.if-is_none-2.true [])

pub returns-then-child_needs : goal.returns-then-child_needs
returns-then-child_needs c =
    let every = all_left _ _ c.args.at c.requires.following.needing c.is_cause.ensures c.if-is_cause.false in
    child_next every c.first_followed-first.ensures c.child_needs.ensures c.requires.following.privilege c.if-child_needs.true

pub returns-then-is_none-3 : goal.returns-then-is_none-3
returns-then-is_none-3 c =
    let every = all_left _ _ c.args.at c.requires.following.needing c.is_cause.ensures c.if-is_cause.false in
    let two = others_left every c.first_followed-first.ensures c.child_needs.ensures c.if-child_needs.false in
    last_next two c.second_child-second.ensures c.requires.following.privilege c.child_needs.ensures.known
    (not_listed c.third_child-third.ensures c.is_none-2.ensures c.if-is_none-3.true [])

pub child_needs-requires-2 : goal.child_needs-requires-2
child_needs-requires-2 c =
    record {
      ready = c.second_child-second.ensures.ready;
      known = c.child_needs.ensures.known;
      privilege = c.requires.following.privilege;
    }

pub returns-then-child_needs-2 : goal.returns-then-child_needs-2
returns-then-child_needs-2 c =
    let every = all_left _ _ c.args.at c.requires.following.needing c.is_cause.ensures c.if-is_cause.false in
    let two = others_left every c.first_followed-first.ensures c.child_needs.ensures c.if-child_needs.false in
    child_next two c.second_child-second.ensures c.child_needs-2.ensures c.requires.following.privilege c.if-child_needs-2.true

pub returns : goal.returns
returns c =
    let every = all_left _ _ c.args.at c.requires.following.needing c.is_cause.ensures c.if-is_cause.false in
    let two = others_left every c.first_followed-first.ensures c.child_needs.ensures c.if-child_needs.false in
    let one = others_left two c.second_child-second.ensures c.child_needs-2.ensures c.if-child_needs-2.false in
    last_next one c.third_child-third.ensures c.requires.following.privilege c.child_needs-2.ensures.known refl
