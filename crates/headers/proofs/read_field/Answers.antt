-- A law for each way out, in the order of the field's conditions: no room for tag and length (1), another tag (2), a wrong length (4), content
-- that is cut short (1), and a field with its number of records. Each has passed the conditions before its own.
use Rattle.headers.proofs.FieldLaws.{field_short, field_tag, field_length, field_cut, field_whole}
use Rattle.headers.proofs.read_field.Goals as goal

pub returns-then-s-at : goal.returns-then-s-at
returns-then-s-at c = field_short c.args.s.now c.args.at c.args.tag c.args.size c.args.least c.args.most c.if-s-at.true

pub returns-then-found-tag : goal.returns-then-found-tag
returns-then-found-tag c =
    field_tag c.args.s.now c.args.at c.args.tag c.args.size c.args.least c.args.most
    c.if-s-at.false c.if-found-tag.true

pub returns-then-not-whole : goal.returns-then-not-whole
returns-then-not-whole c =
    field_length c.args.s.now c.args.at c.args.tag c.args.size c.args.least c.args.most c.if-s-at.false
    c.if-found-tag.false c.be16-len.ensures c.holds-whole.ensures c.if-not-whole.true

pub returns-then-s-at-2 : goal.returns-then-s-at-2
returns-then-s-at-2 c =
    field_cut c.args.s.now c.args.at c.args.tag c.args.size c.args.least c.args.most c.if-s-at.false
    c.if-found-tag.false c.be16-len.ensures c.holds-whole.ensures c.if-not-whole.false c.if-s-at-2.true

pub returns : goal.returns
returns c =
    field_whole c.args.s.now c.args.at c.args.tag c.args.size c.args.least c.args.most c.if-s-at.false
    c.if-found-tag.false c.be16-len.ensures c.holds-whole.ensures c.if-not-whole.false c.if-s-at-2.false
