-- The search from t on finds what the whole search finds (Seeking), since no term below t names p (seek_more). A term that does is the lowest (seek_here), and
-- past the last there is none (seek_past).
use Rattle.naming.proofs.NamingLaws.{Seeking}
use Rattle.naming.proofs.lowest_naming.Given as goal

abbrev pub invariant-loop-t : goal.invariant-loop-t
invariant-loop-t l = Seeking l.s l.p l.t
