-- The list has the nesting of every term from t on, held at 33, one more than is allowed. The parent of t - 1 is t or higher, so that its nesting is in the
-- list; t - 1 has one more, held at 33 (nested_more, one_more).
use Rattle.decoder.proofs.NestingLaws.{NestedFrom}
use Rattle.decoder.proofs.nesting.nestings.Given as goal

abbrev pub invariant-loop-t : goal.invariant-loop-t
invariant-loop-t l = NestedFrom l.parents l.deep l.n l.t
