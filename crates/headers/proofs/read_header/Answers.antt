-- A law for each way out: a field's fault, where those before it are right; what follows the terms and should not; and the counts of right fields.
-- A field begins where the one before ends, at most at 10,894 = 8 + 4 * 32 + 3 + 10 * 256 + 3 + 8 * 1024, below the longest sheet's 10,913, as `read_field`
-- requires.
use Rattle.std.proofs.lemmas.Result.{err_from_is_err_and}
use Rattle.headers.proofs.FieldLaws.{version_fault, fault_2, fault_3, fault_4, after_terms, fault_end, laid}
use Rattle.headers.proofs.read_header.Goals as goal

pub returns-in_err-channels : goal.returns-in_err-channels
returns-in_err-channels c =
    let p = err_from_is_err_and c.from_residual.result c.from_residual.ensures.1 in
    rw (p.1, p.2) (version_fault c.args.s.now c.in_err-channels.ensures)

pub returns-in_err-p : goal.returns-in_err-p
returns-in_err-p c =
    let p = err_from_is_err_and c.from_residual-in_err-p.result c.from_residual-in_err-p.ensures.1 in
    rw (p.1, p.2) (fault_2 c.args.s.now c.in_ok-channels.ensures c.in_err-p.ensures)

pub returns-in_err-y : goal.returns-in_err-y
returns-in_err-y c =
    let p = err_from_is_err_and c.from_residual-in_err-y.result c.from_residual-in_err-y.ensures.1 in
    rw (p.1, p.2) (fault_3 c.args.s.now c.in_ok-channels.ensures c.in_ok-p.ensures c.in_err-y.ensures)

pub returns-in_err-n : goal.returns-in_err-n
returns-in_err-n c =
    let p = err_from_is_err_and c.from_residual-in_err-n.result c.from_residual-in_err-n.ensures.1 in
    rw (p.1, p.2) (fault_4 c.args.s.now c.in_ok-channels.ensures c.in_ok-p.ensures c.in_ok-y.ensures c.in_err-n.ensures)

pub read_end-requires : goal.read_end-requires
read_end-requires c = after_terms c.args.s.now c.in_ok-channels.ensures c.in_ok-p.ensures c.in_ok-y.ensures c.in_ok-n.ensures

pub returns-in_err-read_end : goal.returns-in_err-read_end
returns-in_err-read_end c =
    let p = err_from_is_err_and c.from_residual-in_err-read_end.result c.from_residual-in_err-read_end.ensures.1 in
    rw (p.1, p.2)
    (fault_end c.args.s.now c.in_ok-channels.ensures c.in_ok-p.ensures c.in_ok-y.ensures c.in_ok-n.ensures c.in_err-read_end.ensures)

pub returns : goal.returns
returns c =
    laid c.args.s.now c.in_ok-channels.ensures c.in_ok-p.ensures c.in_ok-y.ensures c.in_ok-n.ensures
    c.in_ok-read_end.ensures
