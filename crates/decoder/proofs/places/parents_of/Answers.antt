-- The list has what the first t terms note: 0 for no parent, the parent for one, 65535 for several. A child is lower than its parent, so that it is
-- in the list of 1,024 and a parent is never 0 (links_more). Every term has a shape, since no record is at fault (no_shape).
use mathlib.Core.Path.{◌≡◌, refl, sym, ◌∙◌, subst}
use mathlib.Core.List.{List}
use Prim.Native.Nat.{ℕ, ◌+◌}
use native.Mathlib.Omega.{arith}
use Rattle.program.specs.Layout.{terms}
use Rattle.decoder.specs.Internal.{ChildrenBelow, Links}
use Rattle.program.proofs.Laws.Readable.{fields_ok}
use Rattle.decoder.proofs.PlaceLaws.{ParentsNoted, shape_below, no_shape, links_none, links_more}
use Rattle.decoder.proofs.places.parents_of.Goals as goal
use Rattle.decoder.proofs.places.parents_of.Goals.{in-Some, in_default}

pub loop-t-init : goal.loop-t-init
loop-t-init c = record { below = omega arith; all = c.requires.laid.counts_are.terms_are; room = refl; links = links_none c.args.s.now }

pub link_all-requires : goal.link_all-requires
link_all-requires c =
    subst (λ (k : ℕ). ChildrenBelow c.in-Some.x k) (sym c.loop-t.invariant.room)
    (shape_below c.args.s.now c.requires.terms_ok (fields_ok c.args.s.now c.requires.laid.none_found).terms_high c.loop-t.t
    (omega (arith, c.loop-t-test.true, c.loop-t.invariant.all)) (sym c.shape_at.ensures ∙ c.in-Some.is))

pub loop-t-preserved : goal.loop-t-preserved
loop-t-preserved c = elim c.match-shape_at.branch [
  | in-Some w ↦ subst (λ (l : List ℕ). ParentsNoted c.args.s.now l c.args.c.terms (c.loop-t.t + 1)) (sym w.parents-is)
      record {
        below = omega arith;
        all = c.loop-t.invariant.all;
        room = w.link_all.auto.parents ∙ c.loop-t.invariant.room;
        links = links_more c.args.s.now c.requires.terms_ok
            (fields_ok c.args.s.now c.requires.laid.none_found).terms_high c.loop-t.t
            (omega (arith, c.loop-t-test.true, c.loop-t.invariant.all)) (sym c.shape_at.ensures ∙ w.in-Some.is) c.loop-t.parents
            w.link_all.new.parents c.loop-t.invariant.room c.loop-t.invariant.links w.link_all.ensures;
      }
  | in_default w ↦ absurd (no_shape c.args.s.now c.requires.terms_ok c.loop-t.t (omega (arith, c.loop-t-test.true, c.loop-t.invariant.all))
      (sym c.shape_at.ensures ∙ w.in_default.is))
]

pub returns : goal.returns
returns c =
    let e : c.loop-t.t ≡ terms c.args.s.now = omega (arith, c.loop-t.invariant.all, c.loop-t.invariant.below, c.loop-t-test.false) in subst
    (λ (x : ℕ). Links c.args.s.now c.loop-t.parents x) e c.loop-t.invariant.links
