-- The types are looked at from the nearest on: none of those in the groups passed has the record of t, so that the types before these groups decide as all
-- before t. A group of which no record has the eight bytes of t is passed (fresh_group); where one has, or no whole group is left, `differs` decides by both
-- words.
use Prim.Native.Nat.{◌*◌, ◌-◌}
use Rattle.typerecords.proofs.TypeLaws.{FreshFrom}
use Rattle.typerecords.proofs.is_fresh.Given as goal

abbrev pub invariant-loop-group : goal.invariant-loop-group
invariant-loop-group l = FreshFrom l.s l.t l.t (l.here - 8 * l.group)
