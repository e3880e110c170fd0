-- One test decides whether the byte at 17 + 4 * principals + 10 * types + 8 * terms + channel lies in the sheet: past the end there is no guard
-- (no_guard_lem), inside it is what stands there (a_guard). Whether the channel is one is not asked. 17 are the first field's 5 bytes and the heads of the
-- other four, 3 each.
use Rattle.accessors.proofs.RecordLaws.{no_guard_lem, a_guard}
use Rattle.accessors.proofs.guard.Goals as goal

pub returns-then-s-at : goal.returns-then-s-at
returns-then-s-at c = no_guard_lem _ c.args.c _ c.if-s-at.true

pub returns : goal.returns
returns c = a_guard _ c.args.c _ c.if-s-at.false
