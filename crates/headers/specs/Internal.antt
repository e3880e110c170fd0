-- What the contracts of the functions that look at fields for the decoder say. No reader of the public promise needs this file.
use Rattle.std.specs.Prelude.{◌||◌, List, [], ◌∷◌, ◌++◌, ◌≡◌, ℕ, ◌+◌, ◌*◌, ◌/◌, ◌<◌, ◌≤◌, eqb, length, Result, Ok, Err}
use Rattle.program.specs.Limits.{max_sheet}
use Rattle.program.specs.Bytes.{word16}
use Rattle.program.specs.Layout.{version, guard_field, sheet_end, channels}
use Rattle.program.specs.Screening.{Condition, First, None, unless}
use Rattle.program.specs.Decoding.{holds, field, guard_conditions, field_conditions}
use Rattle.program.specs.Answers.{decoding_cause, decoding_place}
use Rattle.accessors.specs.Internal.{Laid}
use Rattle.program.specs.declared.answer.Refusal.{Refusal}
use Rattle.program.specs.declared.records.Counts.{Counts}

-- a field of records of this size can be sought here: no index is too large, since a field begins before the end of the longest sheet, and a length can be
-- divided by the size
pub record FieldAt (at size : ℕ) : Type 0 where
  pub near : at < max_sheet
  pub positive : 0 < size

pub record FieldHolds (s : List ℕ) (at tag size least most n : ℕ) : Type 0 where
  pub count : n ≡ word16 s (at + 1) / size
  pub least_are : least ≤ n
  pub most_are : n ≤ most
  pub inside : at + 3 + n * size ≤ length s
  pub none_found : None (field s at tag (holds size least most))

abbrev pub FieldIs : List ℕ → (at tag size least most : ℕ) → Result ℕ Refusal → Type 0
FieldIs s at tag size least most (Ok n) = FieldHolds s at tag size least most n
FieldIs s at tag size least most (Err f) = First (decoding_cause f) (decoding_place f) (field s at tag (holds size least most))

-- the conditions of the fields before those of the second field, and after those of the fourth
abbrev pub version_conditions : List ℕ → List Condition
version_conditions s = field s 0 1 (holds 2 1 1) ++ unless 3 (eqb (version s) 1 || eqb (version s) 2) ∷ []

abbrev pub end_at : List ℕ → (at : ℕ) → List Condition
end_at s at = unless 2 (eqb at (length s)) ∷ []

abbrev pub end_conditions : List ℕ → List Condition
end_conditions s = guard_conditions s ++ end_at s (sheet_end s)

pub record VersionHolds (s : List ℕ) (n : ℕ) : Type 0 where
  pub channels_are : n ≡ channels s
  pub none_found : None (version_conditions s)

abbrev pub VersionIs : List ℕ → Result ℕ Refusal → Type 0
VersionIs s (Ok n) = VersionHolds s n
VersionIs s (Err f) = First (decoding_cause f) (decoding_place f) (version_conditions s)

-- what the fifth field is sought from: where the terms end, and the sheet's channels
pub record AfterTerms (s : List ℕ) (at n : ℕ) : Type 0 where
  pub near : at < max_sheet
  pub place : at ≡ guard_field s
  pub channels_are : n ≡ channels s

abbrev pub EndIs : List Condition → Result (Unit {0}) Refusal → Type 0
EndIs cs (Ok u) = None cs
EndIs cs (Err f) = First (decoding_cause f) (decoding_place f) cs

abbrev pub HeaderIs : List ℕ → Result Counts Refusal → Type 0
HeaderIs s (Ok c) = Laid s c
HeaderIs s (Err f) = First (decoding_cause f) (decoding_place f) (field_conditions s)
