-- From the numbers that the code puts together to the replies of specs/Replies.antt.
use mathlib.Core.Path.{◌≡◌, ◌∙◌}
use Prim.Native.Nat.{ℕ}
use Rattle.semantics.specs.Runs.{stopped}
use Rattle.interp.specs.Answers.{counts_model}
use Rattle.interp.specs.declared.answer.RunCounts.{RunCounts}
use Rattle.numbers.specs.Codes.{CodeIs}
use Rattle.numbers.specs.declared.Code.{Code}
use Rattle.replies.specs.Replies.{Reply, finished}
use Rattle.replies.specs.Internal.{with_counts}

-- ---- a stop
pub stopped_as : (m : RunCounts) {r : Reply} {x : Code} (cause term : ℕ) → r ≡ with_counts 1 x.cause x.place 0 0 m → CodeIs cause term x → r
    ≡ finished (stopped cause term) (counts_model m)
stopped_as m cause term h e = h ∙ (λ i. with_counts 1 (e.cause_is i) (e.place_is i) 0 0 m)
