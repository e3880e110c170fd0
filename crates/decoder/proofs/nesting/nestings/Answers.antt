-- The list has the nesting of every term from t on, held at 33, one more than is allowed. The parent of t - 1 is t or higher, so that its nesting is in the
-- list; t - 1 has one more, held at 33 (nested_more, one_more).
use Prim.Native.Nat.{ℕ, ◌+◌, ◌-◌, min}
use Rattle.std.proofs.Common.{◌≡◌, sym, ap, ◌∙◌, subst}
use native.Mathlib.Omega.{arith}
use lib.ListN.{length-set, get_or, set, replicate}
use Rattle.program.specs.Limits.{max_terms, max_nesting}
use Rattle.decoder.specs.Internal.{Nested}
use Rattle.decoder.proofs.NestingLaws.{nested_root, nested_more, one_more}
use Rattle.decoder.proofs.nesting.nestings.Goals as goal

pub loop-t-init : goal.loop-t-init
loop-t-init c =
    record {
      below = omega (arith, c.from-root.ensures);
      room = length-set (replicate max_terms 0) (c.from-root.result - 1) 1;
      nested = subst (λ (n : ℕ). Nested c.args.parents.now (set (replicate max_terms 0) (n - 1) 1) c.args.n (n - 1)) (sym c.from-root.ensures)
          (nested_root c.args.parents.now (replicate max_terms 0) c.args.n c.requires.low c.requires.high);
    }

pub loop-t-preserved : goal.loop-t-preserved
loop-t-preserved c =
    let depth : c.min.result ≡ min (min (get_or c.loop-t.deep (get_or c.args.parents.now (c.loop-t.t - 1) 0) 0 + 1) 255) (max_nesting + 1) =
    c.min.ensures ∙ ap (λ (d : ℕ). min d (max_nesting + 1)) (c.saturating_add.ensures
    ∙ ap (λ (p : ℕ). min (get_or c.loop-t.deep p 0 + 1) 255) c.from-parent.ensures) in
    record {
      below = omega arith;
      room = simp length-set c.loop-t.invariant.room;
      nested = nested_more c.args.parents.now c.loop-t.deep c.args.n
          c.loop-t.t c.min.result c.loop-t.invariant.nested c.requires.rising
          (omega (arith, c.loop-t.invariant.room, c.requires.high))
          c.loop-t-test.true c.loop-t.invariant.below (λ k h. one_more _ c.min.result k depth h) (omega (arith, depth));
    }
