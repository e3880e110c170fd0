-- What the functions on records make is what the definitions say.
use mathlib.Core.Bool.{Bool, cond, ◌&&◌}
use mathlib.Core.List.{List}
use mathlib.Core.Path.{◌≡◌, sym, ap, ◌∙◌}
use Prim.Native.Nat.{ℕ, ◌+◌, ◌*◌, ◌<◌, ◌≤◌}
use lib.Dec.{leb}
use lib.ListN.{length}
use borrow.Author.Tests.{lt-leb, le-leb, lt-ltb, le-ltb}
use Rattle.program.specs.Limits.{no_guard}
use Rattle.program.specs.Bytes.{byte, word16, word32}
use Rattle.program.specs.declared.records.Counts.{Counts}
use Rattle.program.specs.declared.records.TermRecord.{TermRecord}
use Rattle.program.specs.declared.records.TypeRecord.{TypeRecord}
use Rattle.program.specs.Records.{term_at_byte, no_term, term_record, type_at_byte, no_type, type_record, authority_record, guard_record}

-- one test decides a record
chosen_none : {A : Type 0} (n l : ℕ) (x y : A) → l < n → y ≡ cond (leb n l) x y
chosen_none n l x y h = sym (ap (λ (b : Bool). cond b x y) (lt-leb n l h))

chosen_some : {A : Type 0} (n l : ℕ) (x y : A) → n ≤ l → x ≡ cond (leb n l) x y
chosen_some n l x y h = sym (ap (λ (b : Bool). cond b x y) (le-leb n l h))

module _ (s : List ℕ) (c : Counts) (t : ℕ) where
  abbrev term_byte : ℕ
  term_byte = 14 + 4 * c.principals + 10 * c.types + 8 * t

  abbrev type_byte : ℕ
  type_byte = 11 + 4 * c.principals + 10 * t

  -- past the table
  pub no_term_lem : c.terms ≤ t → no_term ≡ term_record s c t
  unfolding term_record
  no_term_lem h = λ i. cond (sym (le-ltb t c.terms h) i && leb (term_byte + 8) (length s)) (term_at_byte s term_byte) no_term

  -- past the end of the sheet
  pub cut_term : t < c.terms → length s < term_byte + 8 → no_term ≡ term_record s c t
  unfolding term_record
  cut_term g h = λ i. cond (sym (lt-ltb t c.terms g) i && sym (lt-leb (term_byte + 8) (length s) h) i) (term_at_byte s term_byte) no_term

  pub a_term : {x y z : ℕ} → t < c.terms → term_byte + 8 ≤ length s → x ≡ word16 s (term_byte + 2) → y ≡ word16 s (term_byte + 4)
      → z ≡ word16 s (term_byte + 6)
      → ◌≡◌ {A = TermRecord} (record { kind = byte s term_byte; small = byte s (term_byte + 1); first = x; second = y; third = z }) (term_record s c t)
  unfolding term_record
  a_term g h p q r =
      (λ i. record { kind = byte s term_byte; small = byte s (term_byte + 1); first = p i; second = q i; third = r i })
      ∙ (λ i. cond (sym (lt-ltb t c.terms g) i && sym (le-leb (term_byte + 8) (length s) h) i) (term_at_byte s term_byte) no_term)

  pub no_type_lem : length s < type_byte + 10 → no_type ≡ type_record s c t
  unfolding type_record
  no_type_lem h = chosen_none (type_byte + 10) (length s) (type_at_byte s type_byte) no_type h

  pub a_type : {x y z : ℕ} → type_byte + 10 ≤ length s → x ≡ word16 s (type_byte + 2) → y ≡ word16 s (type_byte + 4) → z ≡ word32 s (type_byte + 6)
      → ◌≡◌ {A = TypeRecord} (record { kind = byte s type_byte; zero = byte s (type_byte + 1); arg = x; res = y; latent = z }) (type_record s c t)
  unfolding type_record
  a_type h p q r =
      (λ i. record { kind = byte s type_byte; zero = byte s (type_byte + 1); arg = p i; res = q i; latent = r i })
      ∙ chosen_some (type_byte + 10) (length s) (type_at_byte s type_byte) no_type h

pub no_authority : (s : List ℕ) (n : ℕ) → length s < 8 + 4 * n + 4 → 0 ≡ authority_record s n
unfolding authority_record
no_authority s n h = chosen_none (8 + 4 * n + 4) (length s) (word32 s (8 + 4 * n)) 0 h

pub an_authority : (s : List ℕ) (n : ℕ) {x : ℕ} → 8 + 4 * n + 4 ≤ length s → x ≡ word32 s (8 + 4 * n) → x ≡ authority_record s n
unfolding authority_record
an_authority s n h e = e ∙ chosen_some (8 + 4 * n + 4) (length s) (word32 s (8 + 4 * n)) 0 h

module _ (s : List ℕ) (c : Counts) (channel : ℕ) where
  abbrev guard_place : ℕ
  guard_place = 17 + 4 * c.principals + 10 * c.types + 8 * c.terms + channel

  pub no_guard_lem : length s ≤ guard_place → no_guard ≡ guard_record s c channel
  unfolding guard_record
  no_guard_lem h = λ i. cond (sym (le-ltb guard_place (length s) h) i) (byte s guard_place) no_guard

  pub a_guard : guard_place < length s → byte s guard_place ≡ guard_record s c channel
  unfolding guard_record
  a_guard h = λ i. cond (sym (lt-ltb guard_place (length s) h) i) (byte s guard_place) no_guard
