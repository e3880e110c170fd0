-- `cause_of` is the definition's `cause_of` of a number: 17 if the guard does not pass, else 22 if there is no room, else 0.
use Rattle.std.proofs.Common.{ℕ, cond, ap, ◌∙◌}
use Rattle.machine.specs.Steps.{cause_of}
use Rattle.machine.proofs.steps.cause_of.Goals as goal

pub returns : goal.returns
unfolding cause_of
returns c = c.choose-2.ensures ∙ ap (λ (x : ℕ). cond c.args.passes x 17) c.choose.ensures
