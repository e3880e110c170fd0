-- One test decides whether the four bytes at 8 + 4 * n lie in the sheet: outside the set is empty (no_authority), inside it is what stands there
-- (an_authority). Whether n is a principal is not asked. 8 are the first field's 5 bytes and the head of the second, 3.
use Rattle.accessors.proofs.RecordLaws.{no_authority, an_authority}
use Rattle.accessors.proofs.authority.Goals as goal

pub returns-then-s-at : goal.returns-then-s-at
returns-then-s-at c = no_authority _ _ c.if-s-at.true

pub returns : goal.returns
returns c = an_authority _ _ c.if-s-at.false c.be32.ensures
