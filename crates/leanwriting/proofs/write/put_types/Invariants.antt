-- The records of those among the first t types that are kept stand one after the other, and the count is how many they are. A type is kept
-- if its number is the count (entry_first, entry_other); its record then comes behind the others (gathered_yes).
use Rattle.erasure.specs.Lean.{kept_type, type_bytes}
use Rattle.leanwriting.proofs.WriteLaws.{Gathered}
use Rattle.leanwriting.proofs.write.put_types.Given as goal

abbrev pub invariant-loop-t : goal.invariant-loop-t
invariant-loop-t l = Gathered (kept_type l.s) (type_bytes l.s) l.initial.buffer l.at l.t l.count l.buffer
