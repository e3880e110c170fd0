-- The two ways out are the condition's: another length is refusal 2, the same is none.
use Rattle.headers.proofs.FieldLaws.{not_end, is_end}
use Rattle.headers.proofs.ends.Goals as goal

pub returns-then-at-s : goal.returns-then-at-s
returns-then-at-s c = not_end c.args.s.now c.args.at c.if-at-s.true

pub returns : goal.returns
returns c = is_end c.args.s.now c.args.at c.if-at-s.false
