-- What the contracts of internal functions say; no reader of the entry's promise needs it.
use Rattle.std.specs.Prelude.{ℕ, ◌≤◌, Result, Ok, Err}
use Rattle.compare.specs.declared.answer.Comparison.{Comparison}
use Rattle.compare.specs.declared.answer.Comparison.TheVariants.{Fits, Diverges}
use Rattle.compare.specs.declared.answer.Malformed.{Malformed}
use Rattle.capi_compare.specs.Entries.{max_record}

-- the number of an answer
abbrev pub entries : Result Comparison Malformed → ℕ
entries (Ok (Fits m)) = m
entries (Ok (Diverges k)) = k
entries (Err x) = 0

-- it fits into 32 bits
abbrev pub ComparisonReplyFits : Result Comparison Malformed → Type 0
ComparisonReplyFits x = entries x ≤ max_record
