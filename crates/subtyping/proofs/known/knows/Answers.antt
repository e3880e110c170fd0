-- What is told is the bit of the pair (a, b): bit b % 32 of word b / 32 in the row of a, by `contains`.
use Rattle.std.proofs.Common.{rules}
use Rattle.subtyping.specs.Known.{knows}
use Rattle.subtyping.proofs.known.knows.Goals as goal

pub returns : goal.returns
unfolding knows
returns c = search rules
