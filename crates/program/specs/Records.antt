-- A sheet's records by their numbers, as the other crates read them: what stands in the record if all of it lies in the sheet, and zeros otherwise; of
-- a guard, the byte for none.
-- Of a readable sheet with its own counts these are the parts that Layout.antt names (Laws/Records.antt).
use Rattle.std.specs.Prelude.{cond, ◌&&◌, List, ◌≡◌, ℕ, ◌+◌, ◌*◌, leb, ltb, length}
use Rattle.program.specs.Limits.{no_guard}
use Rattle.program.specs.Bytes.{byte, word16, word32}
use Rattle.program.specs.Layout.{principals, types, terms, channels}
use Rattle.program.specs.declared.records.Counts.{Counts}
use Rattle.program.specs.declared.records.TermRecord.{TermRecord}
use Rattle.program.specs.declared.records.TypeRecord.{TypeRecord}

-- the counts are those of the sheet
pub record CountsOf (s : List ℕ) (c : Counts) : Type 0 where
  pub principals_are : c.principals ≡ principals s
  pub types_are : c.types ≡ types s
  pub terms_are : c.terms ≡ terms s
  pub channels_are : c.channels ≡ channels s

abbrev pub term_at_byte : List ℕ → (at : ℕ) → TermRecord
term_at_byte s i = record { kind = byte s i; small = byte s (i + 1); first = word16 s (i + 2); second = word16 s (i + 4); third = word16 s (i + 6) }

abbrev pub no_term : TermRecord
no_term = record { kind = 0; small = 0; first = 0; second = 0; third = 0 }

-- past the table of terms there is none, though guards may follow it
unfoldable pub term_record : List ℕ → Counts → (t : ℕ) → TermRecord
term_record s c t =
    let i = 14 + 4 * c.principals + 10 * c.types + 8 * t in
    cond (ltb t c.terms && leb (i + 8) (length s)) (term_at_byte s i) no_term

abbrev pub type_at_byte : List ℕ → (at : ℕ) → TypeRecord
type_at_byte s i = record { kind = byte s i; zero = byte s (i + 1); arg = word16 s (i + 2); res = word16 s (i + 4); latent = word32 s (i + 6) }

abbrev pub no_type : TypeRecord
no_type = record { kind = 0; zero = 0; arg = 0; res = 0; latent = 0 }

unfoldable pub type_record : List ℕ → Counts → (t : ℕ) → TypeRecord
type_record s c t =
    let i = 11 + 4 * c.principals + 10 * t in
    cond (leb (i + 10) (length s)) (type_at_byte s i) no_type

unfoldable pub authority_record : List ℕ → (n : ℕ) → ℕ
authority_record s n = cond (leb (8 + 4 * n + 4) (length s)) (word32 s (8 + 4 * n)) 0

-- the guard byte of a channel: in version 1 its place lies past the end
unfoldable pub guard_record : List ℕ → Counts → (channel : ℕ) → ℕ
guard_record s c ch =
    let i = 17 + 4 * c.principals + 10 * c.types + 8 * c.terms + ch in
    cond (ltb i (length s)) (byte s i) no_guard
