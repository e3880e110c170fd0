-- The latent set that the record tells is the type's, since the type is a function's.
use Rattle.following.proofs.CauseLaws.{latent_is}
use Rattle.following.proofs.causes.has_latent.Goals as goal

pub returns : goal.returns
returns c = latent_is c.requires.sheet _ _ c.requires.is_function c.type_record-f.ensures c.contains.ensures
