-- Of a type record, a term record, a place, a nesting and a guard at fault, the first in 01's and 02's order is told.
use Rattle.std.specs.Prelude.{List, ◌≡◌, refl, ℕ}
use Rattle.std.proofs.Math.Option.{none, some}
use Rattle.std.proofs.Common.{sym}
use Rattle.program.specs.Limits.{max_channels, max_nesting}
use Rattle.program.specs.Layout.{types, terms}
use Rattle.program.specs.Screening.{clear, found, screen, first_here, first_later, none_end, none_next, lowest}
use Rattle.program.specs.Decoding.{type_ok, term_ok, placed_ok, nested_in, guard_ok, table_conditions}
use Rattle.program.proofs.Laws.Screening.{first_found, none_clear}

module _ (s : List ℕ) where
  pub found_5 : {t : ℕ} → lowest (type_ok s) 0 (types s) ≡ some t → found 5 t ≡ screen (table_conditions s)
  found_5 e = sym (first_found (first_here refl e))

  module _ (a : lowest (type_ok s) 0 (types s) ≡ none) where
    pub found_6 : {t : ℕ} → lowest (term_ok s) 0 (terms s) ≡ some t → found 6 t ≡ screen (table_conditions s)
    found_6 e = sym (first_found (first_later a (first_here refl e)))

    module _ (b : lowest (term_ok s) 0 (terms s) ≡ none) where
      pub found_7 : {t : ℕ} → lowest (placed_ok s) 0 (terms s) ≡ some t → found 7 t ≡ screen (table_conditions s)
      found_7 e = sym (first_found (first_later a (first_later b (first_here refl e))))

      module _ (c : lowest (placed_ok s) 0 (terms s) ≡ none) where
        pub found_8 : {t : ℕ} → lowest (nested_in s max_nesting) 0 (terms s) ≡ some t → found 8 t ≡ screen (table_conditions s)
        found_8 e = sym (first_found (first_later a (first_later b (first_later c (first_here refl e)))))

        module _ (d : lowest (nested_in s max_nesting) 0 (terms s) ≡ none) where
          pub found_31 : {ch : ℕ} → lowest (guard_ok s) 0 max_channels ≡ some ch → found 31 ch ≡ screen (table_conditions s)
          found_31 e = sym (first_found (first_later a (first_later b (first_later c (first_later d (first_here refl e))))))

          pub none_found_readable : lowest (guard_ok s) 0 max_channels ≡ none → clear ≡ screen (table_conditions s)
          none_found_readable e = sym (none_clear (none_next a (none_next b (none_next c (none_next d (none_next e none_end))))))
