-- A fault of the fields is the first condition that is found (header_found). Where they have none, none of their conditions is found, so that
-- screening the tables tells what screening the whole sheet tells (tables_found).
use Rattle.std.proofs.lemmas.Result.{err_from_is_err_and}
use Rattle.decoder.proofs.DecodeLaws.{header_found, tables_found}
use Rattle.decoder.proofs.decode.Goals as goal

pub returns-in_err-c : goal.returns-in_err-c
returns-in_err-c c =
    let p = err_from_is_err_and c.from_residual.result c.from_residual.ensures.1 in
    rw (p.1, p.2) (record { answer_is = header_found c.args.sheet.now _ c.in_err-c.ensures; counts_are = tt })

pub returns : goal.returns
returns c = tables_found c.args.sheet.now c.in_ok-c.ensures c.decode_tables.ensures
