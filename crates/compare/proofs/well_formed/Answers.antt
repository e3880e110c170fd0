-- `well_formed` asks for whole entries (not_whole) and then looks at the last byte of each. The invariant: the first k entries are well formed; the next is
-- (formed_more) or is not (above_one), and behind the last the record is (formed_all).
use native.Mathlib.Omega.{arith}
use Prim.Native.Nat.{◌*◌, ◌+◌}
use mathlib.Core.Path.{◌≡◌, subst}
use Rattle.compare.proofs.CompareLaws.{Formed, not_whole, above_one, formed_more, formed_all}
use Rattle.compare.proofs.well_formed.Goals as goal

pub returns-then-s-ne0 : goal.returns-then-s-ne0
returns-then-s-ne0 c = not_whole c.args.s.now c.if-s-ne0.true

pub returns-then-s-k-gt1 : goal.returns-then-s-k-gt1
returns-then-s-k-gt1 c = above_one c.args.s.now c.if-s-ne0.false (4 * c.loop-k.k) c.loop-k.invariant (omega arith) c.if-s-k-gt1.true

pub loop-k-preserved : goal.loop-k-preserved
loop-k-preserved c =
    let next : 4 * c.loop-k.k + 4 ≡ 4 * (c.loop-k.k + 1) = omega arith in
    subst (Formed c.args.s.now) next (formed_more c.args.s.now c.if-s-ne0.false (4 * c.loop-k.k) c.loop-k.invariant (omega arith) c.if-s-k-gt1.false)

pub returns : goal.returns
returns c = formed_all c.args.s.now (4 * c.loop-k.k) c.loop-k.invariant (omega arith)
