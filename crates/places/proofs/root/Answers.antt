-- The root is the last term, without bindings and under principal 0 (root_at).
use Rattle.places.proofs.PlaceLaws.{root_at}
use Rattle.places.proofs.root.Goals as goal

pub returns : goal.returns
returns c = root_at c.none.ensures c.new.ensures
