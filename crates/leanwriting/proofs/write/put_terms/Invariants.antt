-- The records of those among the first t terms that are kept stand one after the other, and the count is how many they are. A term is kept
-- unless it is a check or an enable (kept_here, gone_here); its record then comes behind the others (gathered_yes).
use Rattle.erasure.specs.Lean.{kept_term, term_bytes}
use Rattle.leanwriting.proofs.WriteLaws.{Gathered}
use Rattle.leanwriting.proofs.write.put_terms.Given as goal

abbrev pub invariant-loop-t : goal.invariant-loop-t
invariant-loop-t l = Gathered (kept_term l.s) (term_bytes l.s) l.initial.buffer l.at l.t l.count l.buffer
