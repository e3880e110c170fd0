-- The version and the search for tests are the definition's (erasable_is).
use Rattle.renumbering.proofs.TermLaws.{erasable_is}
use Rattle.lean.proofs.erasable.Goals as goal

pub returns : goal.returns
returns c = erasable_is c.args.s.now c.be16.ensures c.untested.ensures
