-- What falls is 2 * t + 1 for `infer` and 2 * t for the others: `infer` calls the function of a kind at the same term t, and that calls `infer` at a child,
-- which is lower.
use Rattle.std.proofs.Common.{◌+◌, ◌*◌}
use Rattle.checker.proofs.infer.+inference.Given as goal

abbrev pub decreases-infer : goal.decreases-infer
decreases-infer l = l.t * 2 + 1

abbrev pub decreases-infer_binary : goal.decreases-infer_binary
decreases-infer_binary l = l.t * 2

abbrev pub decreases-infer_call : goal.decreases-infer_call
decreases-infer_call l = l.t * 2

abbrev pub decreases-infer_check : goal.decreases-infer_check
decreases-infer_check l = l.t * 2

abbrev pub decreases-infer_enable : goal.decreases-infer_enable
decreases-infer_enable l = l.t * 2

abbrev pub decreases-infer_function : goal.decreases-infer_function
decreases-infer_function l = l.t * 2

abbrev pub decreases-infer_if : goal.decreases-infer_if
decreases-infer_if l = l.t * 2

abbrev pub decreases-infer_letrec : goal.decreases-infer_letrec
decreases-infer_letrec l = l.t * 2

abbrev pub decreases-infer_post : goal.decreases-infer_post
decreases-infer_post l = l.t * 2

abbrev pub decreases-infer_sign : goal.decreases-infer_sign
decreases-infer_sign l = l.t * 2

abbrev pub decreases-infer_test : goal.decreases-infer_test
decreases-infer_test l = l.t * 2
