-- The first lower type whose record becomes equal is found in ascending order: none below u does, so that the search from u on finds what the whole
-- search finds (Laws/Search).
use native.Mathlib.Omega.{arith}
use mathlib.Core.Bool.{not}
use mathlib.Core.Path.{sym, ap, ◌∙◌}
use Rattle.program.proofs.Laws.Search.{lowest_here, lowest_more, lowest_past}
use Rattle.renumbering.proofs.TypeLaws.{differs, found_head, own_head}
use Rattle.renumbering.proofs.types.first_alike.Goals as goal

pub returns-then-alike : goal.returns-then-alike
returns-then-alike c =
    found_head c.requires (lowest_here (differs c.args.s.now c.args.t) c.loop-u.u c.args.t
    c.loop-u-test.true (ap not (sym c.alike.ensures ∙ c.if-alike.true)) ∙ sym c.loop-u.invariant.rest_is)

pub loop-u-preserved : goal.loop-u-preserved
loop-u-preserved c =
    record {
      below = omega arith;
      rest_is = c.loop-u.invariant.rest_is ∙ lowest_more (differs c.args.s.now c.args.t) c.loop-u.u c.args.t
          c.loop-u-test.true (ap not (sym c.alike.ensures ∙ c.if-alike.false));
    }

pub returns : goal.returns
returns c =
    own_head c.requires (lowest_past (differs c.args.s.now c.args.t) c.loop-u.u c.args.t c.loop-u-test.false ∙ sym
    c.loop-u.invariant.rest_is)
