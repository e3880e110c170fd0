-- `find` answers the lowest term of which the closure says that its entry is above 32 (find_failing).
use Rattle.std.proofs.Common.{rules, tests}
use Rattle.decoder.specs.Internal.{shallow_enough}
use Rattle.program.proofs.Laws.Search.{find_failing}
use Rattle.decoder.proofs.nesting.too_deep.Goals as goal

pub returns : goal.returns
returns c =
    find_failing (shallow_enough c.args.deep.now) c.args.n _ _ c.find.result c.find.ensures.ran
    (λ t b q k. (search rules, search (rules, tests)))
