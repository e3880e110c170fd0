-- Where the fields and records of a sheet lie, and what a sheet says of its principals, types, terms and guards.
-- 01, "The bytes of a sheet": "Fields of a one-byte tag, a two-byte length and content"; tags 1, 2, 3, 4 in this order, and in version 2 tag 5.
use Rattle.std.specs.Prelude.{Bool, cond, ◌&&◌, List, ℕ, ◌+◌, ◌*◌, ◌-◌, ◌/◌, leb, ltb, eqb}
use Rattle.std.proofs.Math.Option.{Option, none, some}
use Rattle.program.specs.Limits.{max_channels, no_guard}
use Rattle.program.specs.Bytes.{byte, word16, word32}

-- Tag 1 stands at 0 with its two bytes, the version. 02, W8: "Version 2 of the sheet lets the small byte of a post be a channel, 0 to 15, and adds
-- tag 5".
abbrev pub version : List ℕ → ℕ
version s = word16 s 3

abbrev pub has_guards : List ℕ → Bool
has_guards s = eqb (version s) 2

-- Tag 2 stands at 5. "1 to 32 principals, four bytes each: the set A(n)".
abbrev pub principals : List ℕ → ℕ
principals s = word16 s 6 / 4

abbrev pub authority : List ℕ → (principal : ℕ) → ℕ
authority s n = word32 s (8 + 4 * n)

-- "Tag 3: 2 to 256 types, ten bytes each"
abbrev pub type_field : List ℕ → ℕ
type_field s = 8 + 4 * principals s

abbrev pub types : List ℕ → ℕ
types s = word16 s (type_field s + 1) / 10

abbrev pub type_at : List ℕ → (type : ℕ) → ℕ
type_at s t = type_field s + 3 + 10 * t

-- "Tag 4: 1 to 1,024 terms, eight bytes each"
abbrev pub term_field : List ℕ → ℕ
term_field s = type_at s (types s)

abbrev pub terms : List ℕ → ℕ
terms s = word16 s (term_field s + 1) / 8

abbrev pub term_at : List ℕ → (term : ℕ) → ℕ
term_at s t = term_field s + 3 + 8 * t

-- 02, W8: "adds tag 5 of length 16 after tag 4: for each channel a privilege 0 to 31, or 255 for none"
abbrev pub guard_field : List ℕ → ℕ
guard_field s = term_at s (terms s)

abbrev pub guard_at : List ℕ → (channel : ℕ) → ℕ
guard_at s c = guard_field s + 3 + c

abbrev pub sheet_end : List ℕ → ℕ
sheet_end s = cond (has_guards s) (guard_at s max_channels) (guard_field s)

-- "Version 1 posts on channel 0 without a guard."
abbrev pub channels : List ℕ → ℕ
channels s = cond (has_guards s) max_channels 1

abbrev pub guard_byte : List ℕ → (channel : ℕ) → ℕ
guard_byte s c = cond (has_guards s) (byte s (guard_at s c)) no_guard

-- the privilege that guards a channel, from its byte
abbrev pub guard_in : (byte : ℕ) → Option ℕ
guard_in x = cond (eqb x no_guard) none (some x)

abbrev pub guard_of : List ℕ → (channel : ℕ) → Option ℕ
guard_of s c = guard_in (guard_byte s c)

-- "The last term is the root."
abbrev pub root : List ℕ → ℕ
root s = terms s - 1

-- a term's record: "kind (1), small (1), first, second, third (2 each)"
abbrev pub kind_byte : List ℕ → (term : ℕ) → ℕ
kind_byte s t = byte s (term_at s t)

abbrev pub small : List ℕ → (term : ℕ) → ℕ
small s t = byte s (term_at s t + 1)

abbrev pub first : List ℕ → (term : ℕ) → ℕ
first s t = word16 s (term_at s t + 2)

abbrev pub second : List ℕ → (term : ℕ) → ℕ
second s t = word16 s (term_at s t + 4)

abbrev pub third : List ℕ → (term : ℕ) → ℕ
third s t = word16 s (term_at s t + 6)

-- The types as the rules see them. Types 0 and 1 are the boolean and the number; every other is a function, from `arg` to `res`, whose body
-- may need the privileges of its latent set.
pub record Types : Type 0 where
  pub is_fun : ℕ → Bool
  pub arg : ℕ → ℕ
  pub res : ℕ → ℕ
  pub latent : ℕ → ℕ

-- a type's record: "kind (1 byte: 0 boolean, 1 number, 2 function), a zero byte, argument type (2), result type (2), latent set (4)"
abbrev pub types_of : List ℕ → Types
types_of s = record {
  is_fun = λ t. leb 2 t && ltb t (types s);
  arg = λ t. word16 s (type_at s t + 2);
  res = λ t. word16 s (type_at s t + 4);
  latent = λ t. word32 s (type_at s t + 6);
}
