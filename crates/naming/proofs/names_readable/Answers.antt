-- A privilege above 31 is 30 (too_high); of any other the lowest term that names it is told (not_above).
use Rattle.naming.proofs.NamingLaws.{too_high, not_above}
use Rattle.naming.proofs.names_readable.Goals as goal

pub returns-then-privilege-gt-MAX_PRIVILEGE_NUMBER : goal.returns-then-privilege-gt-MAX_PRIVILEGE_NUMBER
returns-then-privilege-gt-MAX_PRIVILEGE_NUMBER c = too_high c.args.s.now c.args.privilege c.if-privilege-gt-MAX_PRIVILEGE_NUMBER.true

pub returns : goal.returns
returns c = not_above c.args.s.now c.args.privilege c.if-privilege-gt-MAX_PRIVILEGE_NUMBER.false c.lowest_naming.ensures
