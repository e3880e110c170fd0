-- `run_accepted` tells the answer of the run that `run_eager` makes: a refused one as a refusal (refused_reported), any other as outcome and counts behind the
-- three lines of the acceptance (ran_reported). The buffers are as that run leaves them. The texts, at most 53 and 209 bytes long, are within the 224 of a
-- draft.
use Rattle.report.proofs.ReportLaws.{refused_reported, ran_reported}
use Rattle.report.proofs.run_accepted.Goals as goal

pub returns-in-Err : goal.returns-in-Err
returns-in-Err c =
    refused_reported c.args.sheet.now c.args.x.terms c.args.x.ty c.args.x.needs _ _ _ c.run_eager-r.ensures
    c.in-Err.is c.from.ensures c.refusal.ensures

pub returns-in-Ok : goal.returns-in-Ok
returns-in-Ok c =
    ran_reported c.args.sheet.now c.args.x.terms c.args.x.ty c.args.x.needs _ _ _ c.run_eager-r.ensures
    c.in-Ok.is c.accepted.ensures
