-- 02's number and values of each case that a comparison answers.
use Rattle.std.specs.Prelude.{Result, Ok, Err}
use Rattle.traces.specs.Comparing.{Comparison as ComparisonOf, refused, fits, diverges}
use Rattle.compare.specs.declared.answer.Comparison.{Comparison}
use Rattle.compare.specs.declared.answer.Comparison.TheVariants.{Fits, Diverges}
use Rattle.compare.specs.declared.answer.Malformed.{Malformed}

abbrev pub comparison_model : Result Comparison Malformed → ComparisonOf
comparison_model (Ok (Fits n)) = fits n
comparison_model (Ok (Diverges k)) = diverges k
comparison_model (Err x) = refused 34 0
