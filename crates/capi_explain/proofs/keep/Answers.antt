-- The list that is written has the 32 places of the terms.
use Rattle.std.proofs.Common.{ℕ, arith}
use lib.ListN.{length-take}
use Rattle.capi_explain.proofs.keep.Goals as goal

pub copy_from_slice-requires : goal.copy_from_slice-requires
copy_from_slice-requires c = omega (arith, length-take {A = ℕ}, c.requires)
