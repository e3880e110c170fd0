-- `find` answers the lowest term of which the closure says that it has no shape, and a term has no shape exactly if its record is wrong (wrong_is); that is
-- the lowest record at fault (find_failing). The closure is asked of terms of the sheet alone, as the counts are the sheet's.
use Rattle.std.proofs.Common.{ap, ◌∙◌, arith, rules, tests}
use Rattle.std.proofs.lemmas.Iterator.{serves_from_Range}
use Rattle.program.specs.Decoding.{term_ok}
use Rattle.program.specs.Screening.{lowest}
use Rattle.program.proofs.Laws.Search.{find_failing}
use Rattle.termrecords.proofs.TermLaws.{wrong_is}
use Rattle.termrecords.proofs.bad_term.Goals as goal

pub find-requires : goal.find-requires
find-requires c =
    record {
      can = tt;
      finite = tt;
      callable = serves_from_Range (λ x q k. search (rules, tests))
          (λ x low high t e. record { laid = c.requires; inside = omega (arith, e, high, c.requires.counts_are.terms_are) });
    }

pub returns : goal.returns
returns c =
    find_failing (term_ok c.args.s.now) c.args.c.terms _ _ c.find.result c.find.ensures.ran
    (λ t b q k. (search rules, search (rules, tests, wrong_is))) ∙ ap (lowest (term_ok c.args.s.now) 0) c.requires.counts_are.terms_are
