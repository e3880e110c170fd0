-- The root is visited without bindings, and nothing is known of the types yet (root_visitable). What is found of it is the sheet's piece; the check finds that.
use mathlib.Core.Path.{refl}
use Rattle.subtyping.proofs.KnownLaws.{known_none}
use Rattle.piece.proofs.LocateLaws.{root_visitable}
use Rattle.piece.proofs.locate_readable.Goals as goal

pub visit-found-requires : goal.visit-found-requires
visit-found-requires c = root_visitable c.requires c.root.ensures (known_none _ _ refl)
