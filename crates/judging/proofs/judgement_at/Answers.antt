-- `infer` judges the term at its place, where it may be judged; of the types nothing is known yet. A type is told with the place's principal, and a fault as it
-- is (place_judged).
use mathlib.Core.Path.{refl}
use Rattle.std.proofs.lemmas.Result.{err_from_is_err_and}
use Rattle.subtyping.proofs.KnownLaws.{known_none}
use Rattle.judging.proofs.JudgementLaws.{place_judged}
use Rattle.judging.proofs.judgement_at.Goals as goal

pub infer-requires : goal.infer-requires
infer-requires c = record { ready = c.requires; known = known_none _ _ refl }

pub returns-in_err-ty : goal.returns-in_err-ty
returns-in_err-ty c =
    let p = err_from_is_err_and c.from_residual.result c.from_residual.ensures.1 in
    rw (p.1, p.2)
    (place_judged c.args.s.now c.args.at c.infer.ensures.is c.in_err-ty.was)

pub returns : goal.returns
returns c = place_judged c.args.s.now c.args.at c.infer.ensures.is c.in_ok-ty.was
