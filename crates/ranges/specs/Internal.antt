-- What the contract of `evaluate` asks for. No reader of the public promise needs this file.
use Rattle.std.specs.Prelude.{true, List, ◌≡◌, ℕ}
use Rattle.program.specs.declared.records.Counts.{Counts}
use Rattle.intervals.specs.Pairs.{pairs_ok}
use Rattle.interp.specs.Internal.{Cleared}

-- a run that is admitted, with pairs that are right
pub record PairedRun (s pairs start : List ℕ) (cells posts calls depth : ℕ) (c : Counts) : Type 0 where
  pub cleared : Cleared s start cells posts true calls depth c
  pub pairs_ok_holds : pairs_ok s pairs ≡ true
