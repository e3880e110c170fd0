-- `number_at` gives the turn, the place, a line's count (is_count) or a number of the jobs.
use native.Mathlib.Omega.{arith}
use Rattle.capi_lines.proofs.StateLaws.{is_count}
use Rattle.capi_lines.proofs.state.number_at.Goals as goal

pub returns-then-i-lt6 : goal.returns-then-i-lt6
returns-then-i-lt6 c =
    is_count c.args.lines.now c.args.i c.if-i-eq0.false c.if-i-eq1.false (omega arith) c.if-i-lt6.true _ c.len.result
    c.len.ensures.size_is
