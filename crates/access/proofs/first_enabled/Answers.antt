-- One less, modulo 2^64, is the last index.
use Rattle.std.proofs.Common.{ap, ◌∙◌, arith}
use Rattle.access.specs.Access.{last_of}
use Rattle.access.proofs.AccessLaws.{last_of_lem}
use Rattle.access.proofs.first_enabled.Goals as goal

pub returns : goal.returns
returns c = last_of_lem _ (omega (arith, c.low.ensures)) ∙ ap last_of c.low.ensures
