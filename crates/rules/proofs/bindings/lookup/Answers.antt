-- A number past the bindings has no type (bound_out); any other counts backwards from the last of the first `len` (bound_in).
use Rattle.rules.proofs.BindingLaws.{bound_in, bound_out}
use Rattle.rules.proofs.bindings.lookup.Goals as goal

pub returns-then-b-i : goal.returns-then-b-i
returns-then-b-i c = bound_out _ _ _ c.if-b-i.true

pub returns : goal.returns
returns c = bound_in _ _ _ c.if-b-i.false
