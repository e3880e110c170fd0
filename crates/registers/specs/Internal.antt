-- What the contracts of internal functions say. No reader of the public promises needs this file.
use Rattle.std.specs.Prelude.{ℕ, ◌≤◌, Ok, Err}
use Rattle.program.specs.Limits.{max_calls}
use Rattle.interp.specs.Answers.{Run}
use Rattle.blocks.specs.Block.{RunRegisters}

abbrev pub end_registers : (value calls : ℕ) → RunRegisters
end_registers v n = record { flag = 1; cause = 0; value = v; calls = n; place = 0 }

-- the calls of a run that was not refused fit into a pair of bytes
abbrev pub FewCalls : Run → Type 0
FewCalls (Err f) = Unit {0}
FewCalls (Ok r) = r.made.calls ≤ max_calls
