-- What the contracts of internal functions say. No reader of the public promises needs this file.
use Rattle.std.specs.Prelude.{Bool, cond, List, ℕ, set}
use Rattle.blocks.specs.Block as blocks
use Rattle.blocks.specs.declared.block.RunRegisters.{RunRegisters}

abbrev pub registers_model : RunRegisters → blocks.RunRegisters
registers_model t = record { flag = t.flag; cause = t.cause; value = t.value; calls = t.calls; place = t.place }

abbrev pub kept_of : (is_kept : Bool) (block : List ℕ) (address value : ℕ) → List ℕ
kept_of k b a v = cond k (set b a v) b
