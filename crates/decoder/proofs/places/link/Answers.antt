-- One entry is written: t where no parent was noted, and 65535, for more than one, where one was. The other entries are as they were.
use Rattle.decoder.proofs.PlaceLaws.{linked_first, linked_again}
use Rattle.decoder.proofs.places.link.Goals as goal

pub returns-then-parents-i-eq0 : goal.returns-then-parents-i-eq0
returns-then-parents-i-eq0 c = linked_first c.args.parents.now c.args.x c.args.t c.requires c.if-parents-i-eq0.true

pub returns-else-parents-i-eq0 : goal.returns-else-parents-i-eq0
returns-else-parents-i-eq0 c = linked_again c.args.parents.now c.args.x c.args.t c.requires c.if-parents-i-eq0.false
