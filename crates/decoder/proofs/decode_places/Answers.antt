-- A term that is wrongly placed is refusal 7, since types and terms are right (place_told). Where none is found, that and the list of parents is what
-- `decode_nesting` requires, and its answer is the answer.
use mathlib.Core.Path.{sym}
use Rattle.decoder.proofs.DecodeLaws.{place_told}
use Rattle.decoder.proofs.decode_places.Goals as goal

pub decode_nesting-requires : goal.decode_nesting-requires
decode_nesting-requires c =
    record {
      tables = c.requires;
      places_ok = record { none_found = sym c.in_default.ensures; links = c.parents_of-parents.ensures };
    }

pub returns-in-Some : goal.returns-in-Some
returns-in-Some c = place_told c.args.s.now c.requires.types_ok.none_found c.requires.terms_ok.none_found c.in-Some.ensures
