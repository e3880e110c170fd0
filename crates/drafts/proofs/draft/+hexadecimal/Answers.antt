-- `hexadecimal` appends the last k hexadecimal digits: none for k = 0 (no_digits), else k - 1 of n / 16, then that of n % 16 (one_more_digit).
-- The recursive call adds at most k - 1 bytes, so the last digit has room.
use Rattle.std.proofs.Common.{arith}
use Rattle.drafts.proofs.DraftLaws.{no_digits, one_more_digit}
use Rattle.drafts.proofs.draft.+hexadecimal.Goals as goal

pub push-requires : goal.push-requires
push-requires t c = omega (arith, c.hexadecimal.ensures.len_most, c.requires)

pub returns-then-k-gt0 : goal.returns-then-k-gt0
returns-then-k-gt0 t c = one_more_digit c.args.k c.args.n c.if-k-gt0.true c.hexadecimal.ensures c.digit-last.ensures c.push.ensures

pub returns-else-k-gt0 : goal.returns-else-k-gt0
returns-else-k-gt0 t c = no_digits _ c.args.k c.args.n (omega (arith, c.if-k-gt0.false))
