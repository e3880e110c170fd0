-- By the kind: leaves and binders have no first child, and a sign's is under the principal that signs.
use Rattle.places.proofs.PlaceLaws.{no_first, first_signed, first_same}
use Rattle.std.proofs.Common.{arith}
use Rattle.places.proofs.first_child.Goals as goal

pub returns-in-9 : goal.returns-in-9
returns-in-9 c = first_signed c.requires c.term-x.ensures c.in-9.is c.new.ensures

pub returns-in-0-to-4 : goal.returns-in-0-to-4
returns-in-0-to-4 c = no_first c.requires c.term-x.ensures (omega arith)

pub returns-in_default : goal.returns-in_default
returns-in_default c = first_same c.requires c.term-x.ensures (omega arith) (λ e. omega arith) c.new-in_default.ensures
