-- The whole decoder: each way out tells the first condition that is found.
use mathlib.Core.List.{List}
use mathlib.Core.Option.{none, some}
use mathlib.Core.Path.{◌≡◌, refl, sym, ap, ◌∙◌}
use Prim.Native.Nat.{ℕ, ◌<◌}
use Rattle.std.specs.Prelude.{Result, Ok, Err}
use Rattle.program.specs.Limits.{max_channels, max_nesting}
use Rattle.program.specs.Layout.{types, terms}
use Rattle.program.specs.Screening.{found, lowest}
use Rattle.program.specs.Decoding.{type_ok, term_ok, placed_ok, nested_in, guard_ok, table_conditions, decoding, is_guard}
use Rattle.program.specs.Records.{guard_record, CountsOf}
use Rattle.program.proofs.Laws.Order.{found_5, found_6, found_7, found_8, found_31, none_found_readable}
use Rattle.program.proofs.Laws.Readable.{fields_ok}
use Rattle.program.proofs.Laws.Records.{guard_laid}
use Rattle.program.proofs.Laws.Screening.{first_found, none_screen, first_left}
use Rattle.program.specs.Answers.{decoding_cause, decoding_place}
use Rattle.accessors.specs.Internal.{Laid}
use Rattle.headers.specs.Internal.{HeaderIs}
use Rattle.decoder.proofs.SearchLaws.{same_lowest}
use Rattle.decoder.specs.Answers.{DecodedAs}
use Rattle.decoder.specs.Internal.{table_screening}
use Rattle.program.specs.declared.answer.Refusal.{Refusal}
use Rattle.program.specs.declared.answer.Refusal.TheVariants.{BadType, BadTerm, BadPlace, TooDeep, BadGuard}
use Rattle.program.specs.declared.records.Counts.{Counts}

-- ---- a guard
guard_ok_holds : (s : List ℕ) (c : Counts) → Laid s c → (channel : ℕ) → channel < max_channels → {g : ℕ} → g ≡ guard_record s c channel
    → is_guard g ≡ guard_ok s channel
guard_ok_holds s c L channel h e =
    ap is_guard (e ∙ guard_laid s (fields_ok s L.none_found).ends c L.counts_are channel h)

-- the search by what is read is the search by the definition
pub guards_found : (s : List ℕ) (c : Counts) → Laid s c
    → lowest (λ channel. is_guard (guard_record s c channel)) 0 max_channels ≡ lowest (guard_ok s) 0 max_channels
guards_found s c L = same_lowest _ (guard_ok s) 0 max_channels (λ channel h. guard_ok_holds s c L channel h refl)

-- ---- the fields, and then the tables
module _ (s : List ℕ) where
  pub header_found : (f : Refusal) → HeaderIs s (Err f) → found (decoding_cause f) (decoding_place f) ≡ decoding s
  unfolding decoding
  header_found f g = sym (first_found (first_left (table_conditions s) g))

  pub tables_found : {c : Counts} → Laid s c → {r : Result Counts Refusal} → DecodedAs s (table_screening s) r → DecodedAs s (decoding s) r
  unfolding decoding table_screening
  tables_found L h = record { answer_is = h.answer_is ∙ sym (none_screen L.none_found (table_conditions s)); counts_are = h.counts_are }

-- ---- the tables: of those at fault the first, in the reader's order, is told; and with none at fault the counts are the sheet's own
module _ (s : List ℕ) where
  pub type_told : {t : ℕ} → some t ≡ lowest (type_ok s) 0 (types s) → DecodedAs s (table_screening s) (Err (BadType t))
  unfolding table_screening
  type_told e = record { answer_is = found_5 s (sym e); counts_are = tt }

  module _ (a : lowest (type_ok s) 0 (types s) ≡ none) where
    pub term_told : {t : ℕ} → some t ≡ lowest (term_ok s) 0 (terms s) → DecodedAs s (table_screening s) (Err (BadTerm t))
    unfolding table_screening
    term_told e = record { answer_is = found_6 s a (sym e); counts_are = tt }

    module _ (b : lowest (term_ok s) 0 (terms s) ≡ none) where
      pub place_told : {t : ℕ} → some t ≡ lowest (placed_ok s) 0 (terms s) → DecodedAs s (table_screening s) (Err (BadPlace t))
      unfolding table_screening
      place_told e = record { answer_is = found_7 s a b (sym e); counts_are = tt }

      module _ (c : lowest (placed_ok s) 0 (terms s) ≡ none) where
        pub nesting_told : {t : ℕ} → some t ≡ lowest (nested_in s max_nesting) 0 (terms s)
            → DecodedAs s (table_screening s) (Err (TooDeep t))
        unfolding table_screening
        nesting_told e = record { answer_is = found_8 s a b c (sym e); counts_are = tt }

        module _ (d : lowest (nested_in s max_nesting) 0 (terms s) ≡ none) where
          pub guard_told : {channel : ℕ} → some channel ≡ lowest (guard_ok s) 0 max_channels
              → DecodedAs s (table_screening s) (Err (BadGuard channel))
          unfolding table_screening
          guard_told e = record { answer_is = found_31 s a b c d (sym e); counts_are = tt }

          pub counts_told : {counts : Counts} → none ≡ lowest (guard_ok s) 0 max_channels → CountsOf s counts
              → DecodedAs s (table_screening s) (Ok counts)
          unfolding table_screening
          counts_told e k = record { answer_is = none_found_readable s a b c d (sym e); counts_are = k }
