-- `type_line` appends "type bool" for type 0 (boolean_line) and "type num" for any other (number_line), each with a newline. At most 10 bytes, the
-- length of the first.
use Rattle.drafts.proofs.LineLaws.{boolean_line, number_line}
use Rattle.drafts.proofs.lines.type_line.Goals as goal

pub returns-then-ty-eq0 : goal.returns-then-ty-eq0
returns-then-ty-eq0 c = boolean_line c.args.ty c.if-ty-eq0.true c.word.ensures

pub returns-else-ty-eq0 : goal.returns-else-ty-eq0
returns-else-ty-eq0 c = number_line c.args.ty c.if-ty-eq0.false c.word-else-ty-eq0.ensures
