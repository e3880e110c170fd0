-- What falls is the sum of the two types' numbers: a function type's argument and result have lower numbers than the type.
use Rattle.std.proofs.Common.{◌+◌}
use Rattle.subtyping.proofs.subtypes.+subtype.Given as goal

abbrev pub decreases-subtype : goal.decreases-subtype
decreases-subtype l = l.a + l.b
