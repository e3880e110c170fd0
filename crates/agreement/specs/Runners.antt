-- Which runner is asked for.
use Rattle.std.specs.Prelude.{Bool, true, false}
use Rattle.semantics.specs.Runs.{Runner, eager, lazy}

abbrev pub runner_of : (isLazy : Bool) → Runner
runner_of true = lazy
runner_of false = eager
