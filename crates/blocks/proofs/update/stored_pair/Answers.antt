-- `stored_pair` stores the two bytes one after the other; each fits, since the number has 16 bits.
use mathlib.Core.Path.{◌∙◌, ap}
use mathlib.Core.List.{List}
use Prim.Native.Nat.{ℕ, ◌+◌, ◌%◌}
use lib.ListN.{set}
use Rattle.program.specs.Bytes.{with_word16}
use Rattle.blocks.proofs.update.stored_pair.Goals as goal

pub returns : goal.returns
unfolding with_word16
returns c = c.stored-2.ensures ∙ ap (λ (l : List ℕ). set l (c.args.at + 1) (c.args.n % 256)) c.stored.ensures
