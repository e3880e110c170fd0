-- A child that is absent adds nothing. Of one that is there, its children are visited and it is judged from their judgements, its count of terms is at most
-- 1,024 (counts_fit), and what is found is as `VisitedAs` says (found_there).
use Rattle.smallest.proofs.VisitLaws.{nothing_found, counts_fit, found_there}
use Rattle.smallest.proofs.visit.+visit.Goals as goal

pub returns-in_default : goal.returns-in_default
returns-in_default t c = rw c.in_default.is (nothing_found c.args.s.now c.requires.known)

pub combine-requires : goal.combine-requires
combine-requires t c =
    counts_fit (rw c.in-Some.is at c.requires.ready) c.first_child-first.ensures c.second_child-second.ensures
    c.third_child-third.ensures c.visit-i.ensures c.visit-j.ensures c.visit-k.ensures

pub returns : goal.returns
returns t c =
    rw c.in-Some.is
    (found_there (rw c.in-Some.is at c.requires.ready) c.first_child-first.ensures c.second_child-second.ensures c.third_child-third.ensures
    c.visit-i.ensures c.visit-j.ensures c.visit-k.ensures c.judgement-r.ensures c.combine.ensures)
