-- `of_decoded` gives the reply that `of_decoded` says, by case: a refusal as the cause and place that its `Code` tells (refused_as), a readable sheet as
-- its counts, where both replies are the same by computation.
use Rattle.replies.specs.Internal.{of_decoded}
use Rattle.replies.specs.Laws.{by, refused_as}
use mathlib.Core.Path.{refl}
use Rattle.replies.proofs.of_decoded.Goals as goal

pub returns-in-Err : goal.returns-in-Err
returns-in-Err c = by of_decoded c.in-Err.is (refused_as _ _ c.refused.ensures c.from.ensures)

pub returns-in-Ok : goal.returns-in-Ok
returns-in-Ok c = by of_decoded c.in-Ok.is refl
