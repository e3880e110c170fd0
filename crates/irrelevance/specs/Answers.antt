-- The papers' number and values of each case that is told of a sheet and a privilege: the decoder's refusals, and 02's 30 (W7), "place 0, as wherever a
-- number has none named".
use Rattle.std.specs.Prelude.{ℕ, Option, Some, None, Result, Ok, Err}
use Rattle.program.specs.Answers.{decoding_cause, decoding_place}
use Rattle.irrelevance.specs.Naming.{Naming, refused, unnamed, named}
use Rattle.irrelevance.specs.declared.answer.NamingRefusal.{NamingRefusal}
use Rattle.irrelevance.specs.declared.answer.NamingRefusal.TheVariants.{Unreadable, NoPrivilege}

abbrev pub named_model : Result (Option ℕ) NamingRefusal → Naming
named_model (Ok (Some t)) = named t
named_model (Ok None) = unnamed
named_model (Err (Unreadable f)) = refused (decoding_cause f) (decoding_place f)
named_model (Err NoPrivilege) = refused 30 0
