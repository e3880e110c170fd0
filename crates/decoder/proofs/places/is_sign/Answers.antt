-- The record that is read has the kind of term t, since the fields are right and t is in the table. Kind 9 is the sign.
use Rattle.decoder.proofs.PlaceLaws.{record_inside, sign_is}
use Rattle.decoder.proofs.places.is_sign.Goals as goal

pub table_term-r-requires : goal.table_term-r-requires
table_term-r-requires c = record_inside c.args.s.now c.args.c c.args.t c.requires

pub returns : goal.returns
returns c = sign_is c.args.s.now c.args.c c.args.t c.requires c.table_term-r.ensures
