-- The table has the new numbers of the first t terms, and the count is how many of them are kept. A check or an enable gets the number of its inner
-- term, which is lower (inner_number), and any other term the count (own_number).
use Rattle.program.specs.Limits.{max_terms}
use Rattle.erasure.specs.Lean.{kept_term, new_term}
use Rattle.renumbering.proofs.TableLaws.{NumberedBelow}
use Rattle.renumbering.proofs.terms.number_terms.Given as goal

abbrev pub invariant-loop-t : goal.invariant-loop-t
invariant-loop-t l = NumberedBelow (kept_term l.s) (new_term l.s) max_terms l.numbers l.count l.t
