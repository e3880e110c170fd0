-- A sheet with one channel has no guards, and ends where the terms do (plain_end). Any other has the field of tag 5, whose fault is the first that is
-- found (fault_5), and ends after its 3 + 16 bytes (guards_end).
use Rattle.std.proofs.lemmas.Result.{err_from_is_err_and}
use Rattle.headers.proofs.FieldLaws.{plain_end, fault_5, guards_end}
use Rattle.headers.proofs.read_end.Goals as goal

pub returns-then-channels-eq1 : goal.returns-then-channels-eq1
returns-then-channels-eq1 c = plain_end c.args.s.now c.requires.place c.requires.channels_are c.if-channels-eq1.true c.ends.result c.ends.ensures

pub returns : goal.returns
returns c =
    guards_end c.args.s.now c.requires.place c.requires.channels_are c.if-channels-eq1.false
    c.in_ok-read_field.ensures.none_found c.ends-2.result c.ends-2.ensures

pub returns-in_err-read_field : goal.returns-in_err-read_field
returns-in_err-read_field c =
    let p = err_from_is_err_and c.from_residual.result c.from_residual.ensures.1 in
    rw (p.1, p.2) (fault_5 c.args.s.now c.requires.place c.requires.channels_are c.if-channels-eq1.false c.in_err-read_field.ensures)
