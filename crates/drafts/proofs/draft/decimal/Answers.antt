-- `decimal` appends the text that `itoa` makes of n, which is the definition's (spelled). It is at most 20 bytes long, so it has room.
use Rattle.std.proofs.Common.{rules, arith}
use Rattle.drafts.proofs.DraftLaws.{spelled}
use Rattle.drafts.proofs.draft.decimal.Goals as goal

pub returns : goal.returns
returns c = spelled c.args.n (omega arith) (search rules) c.word.ensures
