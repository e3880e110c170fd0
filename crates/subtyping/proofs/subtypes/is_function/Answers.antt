-- Types 0 and 1 are no functions; of any other the comparison with the number of types decides.
use Rattle.subtyping.proofs.SubtypeLaws.{function_low, function_high}
use Rattle.subtyping.proofs.subtypes.is_function.Goals as goal

pub returns-then-t-lt2 : goal.returns-then-t-lt2
returns-then-t-lt2 c = function_low _ _ c.if-t-lt2.true

pub returns : goal.returns
returns c = function_high _ _ c.if-t-lt2.false
