-- The lowest type record at fault is found in ascending order. All types below t are right and their depths stand in the list, which has room for
-- 256, the most types of a sheet, so that the search from t on finds what the whole search finds (Laws/Search).
use Rattle.typerecords.proofs.TypeLaws.{TypesPassed}
use Rattle.typerecords.proofs.bad_type.Given as goal

abbrev pub invariant-loop-t : goal.invariant-loop-t
invariant-loop-t l = TypesPassed l.s l.depths l.c.types l.t
