-- Since the places are right, every parent is higher than its child (rising_at), and the search in the list of nestings is the search for the lowest term
-- nested deeper than 32 (deep_at). A term found is refusal 8; with none found, that is what `decode_guards` requires, and its answer is the answer.
use mathlib.Core.Path.{sym, ◌∙◌}
use native.Mathlib.Omega.{arith}
use Rattle.program.proofs.Laws.Readable.{fields_ok}
use Rattle.decoder.proofs.NestingLaws.{rising_at, deep_at}
use Rattle.decoder.proofs.DecodeLaws.{nesting_told}
use Rattle.decoder.proofs.decode_nesting.Goals as goal

pub nestings-deep-requires : goal.nestings-deep-requires
nestings-deep-requires c =
    let laid = c.requires.tables.laid in
    let fields = fields_ok c.args.s.now laid.none_found in
    record {
      low = omega (arith, fields.terms_low, laid.counts_are.terms_are);
      high = omega (arith, fields.terms_high, laid.counts_are.terms_are);
      rising = rising_at c.args.s.now c.args.parents.now c.requires.tables.terms_ok fields.terms_high c.requires.places_ok
          laid.counts_are.terms_are;
    }

pub too_deep-requires : goal.too_deep-requires
too_deep-requires c = omega (arith, (fields_ok c.args.s.now c.requires.tables.laid.none_found).terms_high, c.requires.tables.laid.counts_are.terms_are)

pub decode_guards-requires : goal.decode_guards-requires
decode_guards-requires c =
    record {
      tables = c.requires.tables;
      places_ok = c.requires.places_ok.none_found;
      nesting_ok = sym (c.in_default.ensures ∙ deep_at c.args.s.now c.args.parents.now
          c.requires.tables.terms_ok (fields_ok c.args.s.now c.requires.tables.laid.none_found).terms_high c.requires.places_ok
          c.requires.tables.laid.counts_are.terms_are _ c.nestings-deep.ensures);
    }

pub returns-in-Some : goal.returns-in-Some
returns-in-Some c =
    nesting_told c.args.s.now c.requires.tables.types_ok.none_found c.requires.tables.terms_ok.none_found
    c.requires.places_ok.none_found
    (c.in-Some.ensures ∙ deep_at c.args.s.now c.args.parents.now
    c.requires.tables.terms_ok (fields_ok c.args.s.now c.requires.tables.laid.none_found).terms_high c.requires.places_ok
    c.requires.tables.laid.counts_are.terms_are _ c.nestings-deep.ensures)
