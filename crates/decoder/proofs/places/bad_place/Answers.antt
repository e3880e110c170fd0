-- `find` answers the lowest term of which the closure says that it is not placed right (find_failing). The closure is asked of terms of the sheet alone, as the
-- counts are the sheet's.
use Rattle.std.proofs.Common.{ap, ◌∙◌, arith, rules, tests}
use Rattle.std.proofs.lemmas.Iterator.{serves_from_Range}
use Rattle.program.specs.Screening.{lowest}
use Rattle.program.specs.Decoding.{placed_ok}
use Rattle.program.proofs.Laws.Search.{find_failing}
use Rattle.decoder.proofs.places.bad_place.Goals as goal

pub find-requires : goal.find-requires
find-requires c =
    record {
      can = tt;
      finite = tt;
      callable = serves_from_Range (λ x q k. search (rules, tests))
          (λ x low high t e. record {
            tables = c.requires.tables;
            links = c.requires.links;
            inside = omega (arith, e, high, c.requires.tables.laid.counts_are.terms_are);
          });
    }

pub returns : goal.returns
returns c =
    find_failing (placed_ok c.args.s.now) c.args.c.terms _ _ c.find.result c.find.ensures.ran (λ t b q k. (search rules, search (rules, tests)))
    ∙ ap (lowest (placed_ok c.args.s.now) 0) c.requires.tables.laid.counts_are.terms_are
