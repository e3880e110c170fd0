-- The table has the new numbers of the first t types, and the count is how many of them are kept. A type that is its own head gets the count
-- (first_number), and any other the number of its head, which is lower (merged_number).
use Rattle.program.specs.Limits.{max_types}
use Rattle.erasure.specs.Lean.{kept_type, new_type}
use Rattle.renumbering.proofs.TableLaws.{NumberedBelow}
use Rattle.renumbering.proofs.types.number_types.Given as goal

abbrev pub invariant-loop-t : goal.invariant-loop-t
invariant-loop-t l = NumberedBelow (kept_type l.s) (new_type l.s) max_types l.numbers l.count l.t
