-- The root is a term, principal 0 is one of the sheet's, and judging the root adds fewer than 32 bindings (root_ready), as `infer` requires; of the types
-- nothing is known yet (known_none). The verdict that is concluded from the root's judgement is then the sheet's (program_is, verdict_is).
use native.Mathlib.Omega.{arith}
use mathlib.Core.Path.{refl}
use Rattle.subtyping.proofs.KnownLaws.{known_none}
use Rattle.checker.proofs.VerdictLaws.{sheet_of, some_terms, root_ready, program_is, verdict_is}
use Rattle.checker.proofs.typecheck_readable.Goals as goal

pub infer-j-requires : goal.infer-j-requires
infer-j-requires c = record { ready = root_ready (sheet_of c.requires) _ c.none.ensures; known = known_none _ _ refl }

pub returns : goal.returns
returns c =
    verdict_is c.requires
    (program_is (sheet_of c.requires) _ c.none.ensures c.infer-j.ensures.is c.conclude.ensures)

pub overflow_sub-root : goal.overflow_sub-root
overflow_sub-root c = omega (arith, some_terms (sheet_of c.requires))
