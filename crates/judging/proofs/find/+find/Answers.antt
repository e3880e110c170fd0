-- Nothing is found in a child that is absent. Of one that is there, the term itself is found if it has the number (found_here), nothing if its number is
-- lower (found_above), and else what is found in its children, the first of them that has something (found_first, found_second, found_third).
use mathlib.Core.Path.{sym, ◌∙◌}
use Rattle.judging.proofs.FindLaws.{nothing_found, found_above, found_here, found_first, found_second, found_third}
use Rattle.judging.proofs.find.+find.Goals as goal

pub returns-in_err-at : goal.returns-in_err-at
returns-in_err-at t c = rw (c.in_err-at.was, c.from_residual.ensures) (nothing_found c.args.s.now c.args.t)

pub returns-then-n-t : goal.returns-then-n-t
returns-then-n-t t c = rw c.in_ok-at.was (found_here c.args.s.now c.args.t c.in_ok-at.at (rw c.in_ok-at.was at c.requires) c.if-n-t.true)

pub returns-then-n-t-2 : goal.returns-then-n-t-2
returns-then-n-t-2 t c = rw c.in_ok-at.was (found_above c.args.s.now c.args.t c.in_ok-at.at (rw c.in_ok-at.was at c.requires) c.if-n-t-2.true)

pub returns-then-is_some : goal.returns-then-is_some
returns-then-is_some t c =
    rw c.in_ok-at.was
    (found_first c.args.s.now c.args.t c.in_ok-at.at c.if-n-t.false c.first_child-first.ensures
    c.find-i.ensures (sym c.is_some.ensures ∙ c.if-is_some.true))

pub returns-then-is_some-2 : goal.returns-then-is_some-2
returns-then-is_some-2 t c =
    rw c.in_ok-at.was
    (found_second c.args.s.now c.args.t c.in_ok-at.at c.if-n-t.false c.first_child-first.ensures
    c.find-i.ensures (sym c.is_some.ensures ∙ c.if-is_some.false) c.second_child-second.ensures
    c.find-j.ensures (sym c.is_some-2.ensures ∙ c.if-is_some-2.true))

pub returns : goal.returns
returns t c =
    rw c.in_ok-at.was
    (found_third c.args.s.now c.args.t c.in_ok-at.at c.if-n-t.false c.first_child-first.ensures
    c.find-i.ensures (sym c.is_some.ensures ∙ c.if-is_some.false) c.second_child-second.ensures
    c.find-j.ensures (sym c.is_some-2.ensures ∙ c.if-is_some-2.false) c.third_child-third.ensures c.find.ensures)
