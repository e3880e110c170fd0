-- The four writes are an entry's bytes, at a place that has room for them.
use Rattle.std.proofs.Common.{Bool, true, false, ◌≡◌, refl}
use mir.Val.{bool_byte}
use Rattle.program.specs.Bytes.{bit}
use Rattle.machine.proofs.NoteLaws.{entry_is}
use Rattle.machine.proofs.notes.put_entry.Goals as goal

byte_is : (yes : Bool) → bool_byte yes ≡ bit yes
byte_is true = refl
byte_is false = refl

pub returns : goal.returns
returns c = entry_is c.args.noted.now c.args.at c.args.t c.args.p c.args.yes c.requires (byte_is c.args.yes)
