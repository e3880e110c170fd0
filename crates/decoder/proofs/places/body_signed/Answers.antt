-- Only kinds 3 and 4, functions and letrecs, have a body. It is the second part, a lower term since the record is right (body_in), and it is asked whether
-- that is a sign; any other kind passes.
use Rattle.decoder.proofs.PlaceLaws.{record_inside, body_in, body_is, no_body}
use Rattle.decoder.proofs.places.body_signed.Goals as goal

pub table_term-r-requires : goal.table_term-r-requires
table_term-r-requires c = record_inside c.args.s.now c.args.c c.args.t c.requires

pub is_sign-requires : goal.is_sign-requires
is_sign-requires c = body_in c.args.s.now c.args.c c.args.t c.requires c.table_term-r.ensures c.if-r.true

pub returns-then-r : goal.returns-then-r
returns-then-r c =
    body_is c.args.s.now c.args.c c.args.t c.requires c.table_term-r.ensures c.if-r.true
    c.is_sign.ensures

pub returns : goal.returns
returns c = no_body c.args.s.now c.args.c c.args.t c.requires c.table_term-r.ensures c.if-r.false
