-- The term table of a sheet as words: the parts of a record from the lowest byte on. Kind and small have a byte each; first, second and third have 16 bits and
-- begin at bits 16, 32 and 48: 65536 is 2^16, 4294967296 is 2^32 and 281474976710656 is 2^48. In the place of second and third a sign has its principal's set,
-- and a post the guard of its channel.
use Rattle.std.specs.Prelude.{List, ◌≡◌, ℕ, ◌/◌, ◌%◌, length, get_or}
use Rattle.program.specs.Limits.{max_terms}
use Rattle.program.specs.Records.{CountsOf, term_record, authority_record, guard_record}
use Rattle.program.proofs.Laws.Readable.{WellFormed}
use Rattle.program.specs.declared.records.Counts.{Counts}

abbrev pub word_kind : ℕ → ℕ
word_kind x = x % 256

abbrev pub word_small : ℕ → ℕ
word_small x = x / 256 % 256

abbrev pub word_first : ℕ → ℕ
word_first x = x / 65536 % 65536

abbrev pub word_second : ℕ → ℕ
word_second x = x / 4294967296 % 65536

abbrev pub word_third : ℕ → ℕ
word_third x = x / 281474976710656 % 65536

abbrev pub word_authority : ℕ → ℕ
word_authority x = x / 4294967296 % 4294967296

abbrev pub word_guard : ℕ → ℕ
word_guard x = x / 4294967296 % 256

-- a record whose kind is 9 is a sign, and one whose kind is 14 a post
pub record OwnParts (kind : ℕ) : Type 0 where
  pub no_sign : kind ≡ 9 → ⊥
  pub no_post : kind ≡ 14 → ⊥

-- x is the word of term t
pub record WordOf (s : List ℕ) (c : Counts) (t x : ℕ) : Type 0 where
  pub kind_is : word_kind x ≡ (term_record s c t).kind
  pub small_is : word_small x ≡ (term_record s c t).small
  pub first_is : word_first x ≡ (term_record s c t).first
  pub second_is : OwnParts (term_record s c t).kind → word_second x ≡ (term_record s c t).second
  pub third_is : OwnParts (term_record s c t).kind → word_third x ≡ (term_record s c t).third
  pub authority_is : (term_record s c t).kind ≡ 9 → word_authority x ≡ authority_record s (term_record s c t).small
  pub guard_is : (term_record s c t).kind ≡ 14 → word_guard x ≡ guard_record s c (term_record s c t).small

-- a table that is empty still
pub record Empty (terms : List ℕ) : Type 0 where
  pub long : length terms ≡ max_terms
  pub zero_at : (t : ℕ) → get_or terms t 0 ≡ 0

-- a well-formed sheet with its own counts, and such a table for its terms
pub record Decodable (s : List ℕ) (c : Counts) (terms : List ℕ) : Type 0 where
  pub well_formed : WellFormed s
  pub counts : CountsOf s c
  pub empty : Empty terms

-- the words of all terms; a number past the table has the word 0
pub record TermWords (s : List ℕ) (c : Counts) (terms : List ℕ) : Type 0 where
  pub long : length terms ≡ max_terms
  pub holds : (t : ℕ) → WordOf s c t (get_or terms t 0)
