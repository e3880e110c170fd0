-- The records and guards that the functions read, of a sheet with its own counts, are the parts that the definitions name.
use Rattle.std.specs.Prelude.{Bool, true, false, ◌&&◌, List, ◌≡◌, ltb, length}
use Rattle.std.proofs.Math.Bool.{cond}
use Rattle.std.proofs.Math.Path.{ap}
use Rattle.std.proofs.Common.{◌∙◌, arith}
use Prim.Native.Nat.{ℕ, ◌+◌, ◌*◌, ◌<◌, ◌≤◌}
use Rattle.std.proofs.Math.Dec.{leb}
use borrow.Author.Tests.{lt-ltb, le-ltb, le-leb}
use Rattle.program.specs.Limits.{max_channels, no_guard}
use Rattle.program.specs.Bytes.{byte, word32}
use Rattle.program.specs.Layout.{has_guards, principals, types, type_at, terms, term_at, guard_field, guard_at, sheet_end, guard_byte, authority}
use Rattle.program.specs.declared.records.Counts.{Counts}
use Rattle.program.specs.Records.{CountsOf, term_at_byte, no_term, term_record, type_at_byte, no_type, type_record, authority_record, guard_record}
use Rattle.program.proofs.Laws.Readable.{WellFormed}

module _ (s : List ℕ) (inside : term_at s (terms s) ≤ length s) (c : Counts) (k : CountsOf s c) where
  abbrev byte_of : ℕ → ℕ
  byte_of t = 14 + 4 * c.principals + 10 * c.types + 8 * t

  same_place : (t : ℕ) → byte_of t ≡ term_at s t
  same_place t = omega (arith, k.principals_are, k.types_are)

  pub term_laid : (t : ℕ) → t < terms s → term_record s c t ≡ term_at_byte s (term_at s t)
  unfolding term_record
  term_laid t h =
      (λ i. cond (lt-ltb t c.terms (omega (arith, k.terms_are)) i && le-leb (byte_of t + 8) (length s) (omega (arith, same_place t, inside)) i)
      (term_at_byte s (byte_of t)) no_term)
      ∙ ap (term_at_byte s) (same_place t)

  -- past the table
  pub term_none : (t : ℕ) → terms s ≤ t → term_record s c t ≡ no_term
  unfolding term_record
  term_none t h = λ i. cond (le-ltb t c.terms (omega (arith, k.terms_are)) i && leb (byte_of t + 8) (length s)) (term_at_byte s (byte_of t)) no_term

  pub type_laid : (t : ℕ) → t < types s → type_record s c t ≡ type_at_byte s (type_at s t)
  unfolding type_record
  type_laid t h =
      let e : 11 + 4 * c.principals + 10 * t ≡ type_at s t = omega (arith, k.principals_are) in
      ap (λ (b : Bool). cond b (type_at_byte s (11 + 4 * c.principals + 10 * t)) no_type)
      (le-leb (11 + 4 * c.principals + 10 * t + 10) (length s) (omega (arith, inside)))
      ∙ ap (type_at_byte s) e

-- a guard's byte, of a sheet that ends where its version says
module _ (s : List ℕ) (whole : sheet_end s ≡ length s) (c : Counts) (k : CountsOf s c) where
  pub guard_laid : (ch : ℕ) → ch < max_channels → guard_record s c ch ≡ guard_byte s ch
  unfolding guard_record
  guard_laid ch h = go (has_guards s) whole
    where
      i : ℕ
      i = 17 + 4 * c.principals + 10 * c.types + 8 * c.terms + ch

      place : i ≡ guard_at s ch
      place = omega (arith, k.principals_are, k.types_are, k.terms_are)

      go : (b : Bool) → cond b (guard_at s max_channels) (guard_field s) ≡ length s
          → cond (ltb i (length s)) (byte s i) no_guard ≡ cond b (byte s (guard_at s ch)) no_guard
      go true e = ap (λ (b : Bool). cond b (byte s i) no_guard) (lt-ltb i (length s) (omega (arith, place))) ∙ ap (byte s) place
      go false e = ap (λ (b : Bool). cond b (byte s i) no_guard) (le-ltb i (length s) (omega (arith, place)))

-- of a well-formed sheet
module _ (s : List ℕ) (w : WellFormed s) where
  pub term_is : (c : Counts) → CountsOf s c → (t : ℕ) → t < terms s → term_record s c t ≡ term_at_byte s (term_at s t)
  term_is c k t h = term_laid s w.terms_inside c k t h

  pub type_is : (c : Counts) → CountsOf s c → (t : ℕ) → t < types s → type_record s c t ≡ type_at_byte s (type_at s t)
  type_is c k t h = type_laid s w.terms_inside c k t h

  pub authority_is : (n : ℕ) → n < principals s → authority_record s n ≡ authority s n
  unfolding authority_record
  authority_is n h = ap (λ (b : Bool). cond b (word32 s (8 + 4 * n)) 0) (le-leb (8 + 4 * n + 4) (length s) (omega (arith, w.terms_inside)))

  pub guard_is : (c : Counts) → CountsOf s c → (ch : ℕ) → ch < max_channels → guard_record s c ch ≡ guard_byte s ch
  guard_is c k ch h = guard_laid s w.whole c k ch h
