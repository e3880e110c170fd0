-- Types are searched before terms: a type at fault is refusal 5 (type_told), a term at fault, where no type is, refusal 6 (term_told). Where neither is
-- found, that is what `decode_places` requires, and its answer is the answer.
use mathlib.Core.Path.{sym}
use Rattle.decoder.proofs.DecodeLaws.{type_told, term_told}
use Rattle.decoder.proofs.decode_tables.Goals as goal

pub decode_places-requires : goal.decode_places-requires
decode_places-requires c =
    record {
      laid = c.requires;
      types_ok = record { none_found = sym c.in_default.ensures };
      terms_ok = record { none_found = sym c.in_default-bad_term.ensures };
    }

pub returns-in-Some : goal.returns-in-Some
returns-in-Some c = type_told c.args.s.now c.in-Some.ensures

pub returns-in-Some-bad_term : goal.returns-in-Some-bad_term
returns-in-Some-bad_term c = term_told c.args.s.now (sym c.in_default.ensures) c.in-Some-bad_term.ensures
