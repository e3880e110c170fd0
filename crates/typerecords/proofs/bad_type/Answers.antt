-- The lowest type record at fault is found in ascending order. All types below t are right and their depths stand in the list, which has room for
-- 256, the most types of a sheet, so that the search from t on finds what the whole search finds (Laws/Search).
use mathlib.Core.Path.{refl, sym, ap, ◌∙◌, subst}
use native.Mathlib.Omega.{arith}
use lib.ListN.{length-set}
use Rattle.program.specs.Screening.{lowest}
use Rattle.program.specs.Decoding.{type_ok}
use Rattle.typerecords.specs.Internal.{DepthIs}
use Rattle.program.proofs.Laws.Readable.{fields_ok}
use Rattle.program.proofs.Laws.Search.{lowest_here, lowest_more, lowest_past, lowest_starts}
use Rattle.typerecords.proofs.TypeLaws.{depths_none, depths_more}
use Rattle.typerecords.proofs.bad_type.Goals as goal

pub loop-t-init : goal.loop-t-init
loop-t-init c =
    record {
      passed = record {
        below = omega arith;
        all = c.requires.counts_are.types_are;
        rest_is = lowest_starts (type_ok c.args.s.now) c.args.c.types;
      };
      room = refl;
      depths = depths_none c.args.s.now _;
    }

pub returns-in_default : goal.returns-in_default
returns-in_default c =
    lowest_here (type_ok c.args.s.now) _ _ c.loop-t-test.true
    (subst (DepthIs c.args.s.now c.loop-t.t) c.in_default.is c.type_depth.ensures) ∙ sym
    c.loop-t.invariant.passed.rest_is ∙ (ap (lowest (type_ok c.args.s.now) 0) c.loop-t.invariant.passed.all)

pub loop-t-preserved : goal.loop-t-preserved
loop-t-preserved c =
    let passed = c.loop-t.invariant.passed in
    let deep = subst (DepthIs c.args.s.now c.loop-t.t) c.in-Some.is c.type_depth.ensures in
    record {
      passed = record {
        below = omega arith;
        all = passed.all;
        rest_is = passed.rest_is ∙ lowest_more (type_ok c.args.s.now) _ _ c.loop-t-test.true deep.right;
      };
      room = simp length-set c.loop-t.invariant.room;
      depths = depths_more c.args.s.now c.loop-t.depths _ _ c.loop-t.invariant.depths
          (omega (arith, passed.all, (fields_ok c.args.s.now c.requires.none_found).types_high, c.loop-t.invariant.room)) deep;
    }

pub returns : goal.returns
returns c =
    lowest_past (type_ok c.args.s.now) _ _ c.loop-t-test.false ∙ sym c.loop-t.invariant.passed.rest_is ∙
    (ap (lowest (type_ok c.args.s.now) 0) c.loop-t.invariant.passed.all)

pub bounds-depths-t : goal.bounds-depths-t
bounds-depths-t c = omega (arith, c.loop-t.invariant.passed.all, (fields_ok c.args.s.now c.requires.none_found).types_high)
