-- The term is sought from the root, without bindings (root_place_ready). Where it is not found there is none with that number, which the check
-- finds, and else it
-- is judged at its place (present_judged).
use mathlib.Core.Path.{ap, ◌∙◌}
use Rattle.std.specs.Result.{result_ok}
use Rattle.places.proofs.PlaceLaws.{root_place_ready}
use Rattle.judging.proofs.JudgementLaws.{found_ready, present_judged}
use Rattle.judging.proofs.judgement_readable.Goals as goal

pub find-requires : goal.find-requires
find-requires c = root_place_ready c.requires c.root.ensures

pub judgement_at-requires : goal.judgement_at-requires
judgement_at-requires c =
    found_ready c.requires c.root.ensures c.args.term c.find.ensures
    (c.ok_or.ensures.ok_part ∙ ap result_ok c.in_ok-at.was)

pub returns : goal.returns
returns c =
    present_judged c.requires c.root.ensures c.args.term c.find.ensures
    (c.ok_or.ensures.ok_part ∙ ap result_ok c.in_ok-at.was) c.judgement_at.ensures
