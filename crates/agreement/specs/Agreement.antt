-- Two theorems about what the code answers: demand 3 (01, "The two runs of demand 3"), and that a privilege plays no part (02, W11). Claims.antt of
-- soundness and of irrelevance say what the words mean.
use Rattle.std.specs.Prelude.{List, ◌≡◌, ℕ, Option, Result}
use Rattle.typing.specs.Verdicts.{accepted}
use Rattle.typing.specs.Answers.{verdict_model}
use Rattle.typing.specs.declared.answer.Accepted.{Accepted}
use Rattle.typing.specs.declared.answer.Rejection.{Rejection}
use Rattle.semantics.specs.Runs.{Answer, refused, ran, After}
use Rattle.soundness.specs.Claims.{GrantsSet, SameRun, Proper}
use Rattle.irrelevance.specs.Naming.{unnamed}
use Rattle.irrelevance.specs.Answers.{named_model}
use Rattle.irrelevance.specs.Claims.{DifferAtMost}
use Rattle.irrelevance.specs.declared.answer.NamingRefusal.{NamingRefusal}

abbrev pub NotRefused : Answer → Type 0
NotRefused (refused c p) = ⊥
NotRefused (ran o k) = Unit {0}

-- If the verdict is acceptance, of type τ and with needs N, the start stack grants N and neither run was refused, then both gave the same answer and
-- posts, and the answer is an end of type τ or a stop by 19 to 22.
pub record Agreement (s start : List ℕ) (v : Result Accepted Rejection) (a b : After) : Type 0 where
  pub demand_3 : (terms τ N : ℕ) → verdict_model v ≡ accepted terms τ N → GrantsSet s start N → NotRefused a.answer → NotRefused b.answer
      → SameRun a b × Proper τ a.answer

-- If no check, test or guard names p, the two starts differ at most in p and neither run was refused, then both gave the same answer and posts.
pub record Irrelevance (s : List ℕ) (p : ℕ) (start start' : List ℕ) (n : Result (Option ℕ) NamingRefusal) (a b : After) : Type 0 where
  pub plays_no_part : named_model n ≡ unnamed → DifferAtMost s p start start' → NotRefused a.answer → NotRefused b.answer → SameRun a b
