-- Tests whose second part is looked at only if the first leaves it open. (`◌&&◌` and `◌||◌` compute both.)
use Rattle.std.specs.Prelude.{Bool, true, false}

abbrev pub also : Bool → (Unit {0} → Bool) → Bool
also true k = k tt
also false k = false

abbrev pub or_else : Bool → (Unit {0} → Bool) → Bool
or_else true k = true
or_else false k = k tt
