-- `run_eager` answers and leaves what the definition's run does: it is the run with a record of no bytes, without the number of its entries (plain_after).
use Rattle.std.specs.Prelude.{Ok}
use Rattle.std.proofs.lemmas.Result.{err_from_is_err_and}
use Rattle.interp.proofs.RunLaws.{plain_after, plain_refused}
use Rattle.interp.proofs.run_eager.Goals as goal

pub returns : goal.returns
returns c = plain_after _ _ _ _ (Ok c.in_ok-r.r) c.in_ok-r.ensures

pub returns-in_err-r : goal.returns-in_err-r
returns-in_err-r c =
    let p = err_from_is_err_and c.from_residual.result c.from_residual.ensures.1 in
    plain_refused _ _ _ _ p.1 p.2 c.in_err-r.ensures
