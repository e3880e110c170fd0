-- A guard that is found is refusal 31, since types, terms, places and nesting are right (guard_told); with none found the sheet is readable, and the
-- counts are its own (counts_told).
use Rattle.decoder.proofs.DecodeLaws.{guard_told, counts_told}
use Rattle.decoder.proofs.decode_guards.Goals as goal

pub returns-in-Some : goal.returns-in-Some
returns-in-Some c =
    guard_told c.args.s.now c.requires.tables.types_ok.none_found c.requires.tables.terms_ok.none_found c.requires.places_ok
    c.requires.nesting_ok c.in-Some.ensures

pub returns : goal.returns
returns c =
    counts_told c.args.s.now c.requires.tables.types_ok.none_found c.requires.tables.terms_ok.none_found c.requires.places_ok
    c.requires.nesting_ok c.in_default.ensures c.requires.tables.laid.counts_are
