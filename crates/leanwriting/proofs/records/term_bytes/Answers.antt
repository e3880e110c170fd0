-- A law for each arm of the match on the kind: which parts are children and which a function's type (uses_at, uses_one, uses_two), so that they are in
-- the tables (first_in, second_in, third_in, type_in), and that the bytes are those of their new numbers (bytes_are). Kinds below 3 have neither
-- (plain_bytes).
use native.Mathlib.Omega.{arith}
use mathlib.Core.Path.{refl}
use Rattle.leanwriting.proofs.RecordLaws.{uses_at, uses_one, uses_two, first_in, second_in, third_in, type_in, type_entry, term_entry, kind_high, bytes_are, plain_bytes}
use Rattle.leanwriting.proofs.records.term_bytes.Goals as goal

pub bounds-types-first : goal.bounds-types-first
bounds-types-first c = omega (arith, type_in c.requires c.term-x.ensures (uses_at 3 c.in-3.is), c.requires.ready.types_ready.sheet.well_formed.types_most)

pub bounds-terms-second : goal.bounds-terms-second
bounds-terms-second c =
    omega (
      arith,
      second_in c.requires c.term-x.ensures (uses_at 3 c.in-3.is) refl,
      c.requires.inside,
      c.requires.ready.types_ready.sheet.well_formed.terms_most,
    )

pub bounds-types-first-in-4 : goal.bounds-types-first-in-4
bounds-types-first-in-4 c = omega (arith, type_in c.requires c.term-x.ensures (uses_at 4 c.in-4.is), c.requires.ready.types_ready.sheet.well_formed.types_most)

pub bounds-terms-second-in-4 : goal.bounds-terms-second-in-4
bounds-terms-second-in-4 c =
    omega (
      arith,
      second_in c.requires c.term-x.ensures (uses_at 4 c.in-4.is) refl,
      c.requires.inside,
      c.requires.ready.types_ready.sheet.well_formed.terms_most,
    )

pub bounds-terms-third : goal.bounds-terms-third
bounds-terms-third c =
    omega (
      arith,
      third_in c.requires c.term-x.ensures (uses_at 4 c.in-4.is) refl,
      c.requires.inside,
      c.requires.ready.types_ready.sheet.well_formed.terms_most,
    )

pub bounds-terms-first : goal.bounds-terms-first
bounds-terms-first c =
    omega (
      arith,
      first_in c.requires c.term-x.ensures (uses_at 5 c.in-5.is) refl,
      c.requires.inside,
      c.requires.ready.types_ready.sheet.well_formed.terms_most,
    )

pub bounds-terms-second-in-5 : goal.bounds-terms-second-in-5
bounds-terms-second-in-5 c =
    omega (
      arith,
      second_in c.requires c.term-x.ensures (uses_at 5 c.in-5.is) refl,
      c.requires.inside,
      c.requires.ready.types_ready.sheet.well_formed.terms_most,
    )

pub bounds-terms-first-in-6 : goal.bounds-terms-first-in-6
bounds-terms-first-in-6 c =
    omega (
      arith,
      first_in c.requires c.term-x.ensures (uses_at 6 c.in-6.is) refl,
      c.requires.inside,
      c.requires.ready.types_ready.sheet.well_formed.terms_most,
    )

pub bounds-terms-second-in-6 : goal.bounds-terms-second-in-6
bounds-terms-second-in-6 c =
    omega (
      arith,
      second_in c.requires c.term-x.ensures (uses_at 6 c.in-6.is) refl,
      c.requires.inside,
      c.requires.ready.types_ready.sheet.well_formed.terms_most,
    )

pub bounds-terms-third-in-6 : goal.bounds-terms-third-in-6
bounds-terms-third-in-6 c =
    omega (
      arith,
      third_in c.requires c.term-x.ensures (uses_at 6 c.in-6.is) refl,
      c.requires.inside,
      c.requires.ready.types_ready.sheet.well_formed.terms_most,
    )

pub bounds-terms-first-in-7-to-9 : goal.bounds-terms-first-in-7-to-9
bounds-terms-first-in-7-to-9 c =
    omega (
      arith,
      first_in c.requires c.term-x.ensures
          (uses_one (omega arith) (omega arith)) refl,
      c.requires.inside,
      c.requires.ready.types_ready.sheet.well_formed.terms_most,
    )

pub bounds-terms-first-in-10-to-13 : goal.bounds-terms-first-in-10-to-13
bounds-terms-first-in-10-to-13 c =
    omega (
      arith,
      first_in c.requires c.term-x.ensures (uses_two (omega arith) (omega arith)) refl,
      c.requires.inside,
      c.requires.ready.types_ready.sheet.well_formed.terms_most,
    )

pub bounds-terms-second-in-10-to-13 : goal.bounds-terms-second-in-10-to-13
bounds-terms-second-in-10-to-13 c =
    omega (
      arith,
      second_in c.requires c.term-x.ensures (uses_two (omega arith) (omega arith)) refl,
      c.requires.inside,
      c.requires.ready.types_ready.sheet.well_formed.terms_most,
    )

pub bounds-terms-first-in_default : goal.bounds-terms-first-in_default
bounds-terms-first-in_default c =
    omega (
      arith,
      first_in c.requires c.term-x.ensures
          (uses_at 14 (omega (arith, kind_high c.requires c.term-x.ensures))) refl,
      c.requires.inside,
      c.requires.ready.types_ready.sheet.well_formed.terms_most,
    )

pub returns-in-3 : goal.returns-in-3
returns-in-3 c =
    bytes_are c.requires c.term-x.ensures (uses_at 3 c.in-3.is)
    (type_entry c.requires c.term-x.ensures _ (type_in c.requires c.term-x.ensures (uses_at 3 c.in-3.is)))
    (term_entry c.requires c.term-x.ensures _ (second_in c.requires c.term-x.ensures (uses_at 3 c.in-3.is) refl)) refl
    c.eight.ensures

pub returns-in-4 : goal.returns-in-4
returns-in-4 c =
    bytes_are c.requires c.term-x.ensures (uses_at 4 c.in-4.is)
    (type_entry c.requires c.term-x.ensures _ (type_in c.requires c.term-x.ensures (uses_at 4 c.in-4.is)))
    (term_entry c.requires c.term-x.ensures _ (second_in c.requires c.term-x.ensures (uses_at 4 c.in-4.is) refl))
    (term_entry c.requires c.term-x.ensures _ (third_in c.requires c.term-x.ensures (uses_at 4 c.in-4.is) refl))
    c.eight-in-4.ensures

pub returns-in-5 : goal.returns-in-5
returns-in-5 c =
    bytes_are c.requires c.term-x.ensures (uses_at 5 c.in-5.is)
    (term_entry c.requires c.term-x.ensures _ (first_in c.requires c.term-x.ensures (uses_at 5 c.in-5.is) refl))
    (term_entry c.requires c.term-x.ensures _ (second_in c.requires c.term-x.ensures (uses_at 5 c.in-5.is) refl)) refl
    c.eight-in-5.ensures

pub returns-in-6 : goal.returns-in-6
returns-in-6 c =
    bytes_are c.requires c.term-x.ensures (uses_at 6 c.in-6.is)
    (term_entry c.requires c.term-x.ensures _ (first_in c.requires c.term-x.ensures (uses_at 6 c.in-6.is) refl))
    (term_entry c.requires c.term-x.ensures _ (second_in c.requires c.term-x.ensures (uses_at 6 c.in-6.is) refl))
    (term_entry c.requires c.term-x.ensures _ (third_in c.requires c.term-x.ensures (uses_at 6 c.in-6.is) refl))
    c.eight-in-6.ensures

pub returns-in-0-to-2 : goal.returns-in-0-to-2
returns-in-0-to-2 c = plain_bytes c.requires c.term-x.ensures (omega arith) c.eight-in-0-to-2.ensures

pub returns-in-7-to-9 : goal.returns-in-7-to-9
returns-in-7-to-9 c =
    bytes_are c.requires c.term-x.ensures (uses_one (omega arith) (omega arith)) (term_entry c.requires c.term-x.ensures _
    (first_in c.requires c.term-x.ensures (uses_one (omega arith) (omega arith)) refl)) refl refl c.eight-in-7-to-9.ensures

pub returns-in-10-to-13 : goal.returns-in-10-to-13
returns-in-10-to-13 c =
    bytes_are c.requires c.term-x.ensures (uses_two (omega arith) (omega arith))
    (term_entry c.requires c.term-x.ensures _ (first_in c.requires c.term-x.ensures
    (uses_two (omega arith) (omega arith)) refl))
    (term_entry c.requires c.term-x.ensures _ (second_in c.requires c.term-x.ensures
    (uses_two (omega arith) (omega arith)) refl)) refl c.eight-in-10-to-13.ensures

pub returns-in_default : goal.returns-in_default
returns-in_default c =
    bytes_are c.requires c.term-x.ensures (uses_at 14 (omega (arith, kind_high c.requires c.term-x.ensures)))
    (term_entry c.requires c.term-x.ensures _ (first_in c.requires c.term-x.ensures
    (uses_at 14 (omega (arith, kind_high c.requires c.term-x.ensures))) refl)) refl refl c.eight-in_default.ensures
