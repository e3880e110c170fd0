-- What stands where in the lean sheet of a readable one: version and principals as before, then the new records at their new numbers.
use Rattle.std.specs.Prelude.{true, List, ◌∷◌, ◌++◌, ◌≡◌, refl, ℕ, ◌+◌, ◌*◌, ◌/◌, ◌%◌, ◌<◌, ◌≤◌, length, take}
use Rattle.std.proofs.Common.{sym, ◌∙◌, div-add-mod', length-take-le}
use Rattle.std.proofs.Math.Path.{ap}
use native.Mathlib.Omega.{arith}
use Rattle.std.proofs.Math.ListN.{length-append, get_or-append}
use Rattle.std.proofs.Math.Seq.{get_or-take, get_or-append-add}
use Rattle.program.specs.Bytes.{byte, word16}
use Rattle.program.specs.Layout.{version, principals, type_field, types, type_at, term_field, terms, term_at, kind_byte, small, first, second, third, types_of}
use Rattle.program.specs.Decoding.{format_at}
use Rattle.program.proofs.Laws.Readable.{WellFormed}
use Rattle.erasure.specs.Kept.{kept_below, gather}
use Rattle.erasure.specs.Lean.{kept_type, new_types, new_type, kept_term, new_terms, bytes16, type_bytes, new_part, term_bytes, type_field_bytes, term_field_bytes, lean_sheet}
use Rattle.erasure.proofs.Laws.Kept.{kept_most, gather_length, gather_inside, gather_at}

-- a number is read as it is written
pub written16 : (x : ℕ) → x / 256 * 256 + x % 256 ≡ x
written16 x = div-add-mod' x 256

-- behind a field's tag and length
past_header : (tag size : ℕ) (xs : List ℕ) (i : ℕ) → byte (tag ∷ bytes16 size ++ xs) (3 + i) ≡ byte xs i
past_header tag size xs i = get_or-append-add (tag ∷ bytes16 size) xs i 0

module _ (s : List ℕ) (w : WellFormed s) where
  -- ---- what is copied
  head_length : length (take (type_field s) s) ≡ type_field s
  head_length = length-take-le (type_field s) s (omega (arith, w.terms_inside))

  pub copied : (i : ℕ) → i < type_field s → byte (lean_sheet s) i ≡ byte s i
  unfolding lean_sheet
  copied i h =
      get_or-append (take (type_field s) s) (type_field_bytes s ++ term_field_bytes s) 0 i (omega (arith, head_length)) ∙ get_or-take (type_field s) s i 0 h

  pub same_version : version (lean_sheet s) ≡ version s
  same_version = λ i. copied 3 (omega arith) i * 256 + copied 4 (omega arith) i

  pub same_principals : principals (lean_sheet s) ≡ principals s
  same_principals = λ i. (copied 6 (omega arith) i * 256 + copied 7 (omega arith) i) / 4

  pub same_type_field : type_field (lean_sheet s) ≡ type_field s
  same_type_field = ap (λ (x : ℕ). 8 + 4 * x) same_principals

  -- ---- the types
  type_part : (i : ℕ) → byte (lean_sheet s) (type_field s + i) ≡ byte (type_field_bytes s ++ term_field_bytes s) i
  unfolding lean_sheet
  type_part i =
      ap (λ (x : ℕ). byte (take (type_field s) s ++ (type_field_bytes s ++ term_field_bytes s)) (x + i)) (sym head_length)
      ∙ get_or-append-add (take (type_field s) s) (type_field_bytes s ++ term_field_bytes s) i 0

  at_type : (i j : ℕ) → i ≡ type_field s + j → byte (lean_sheet s) i ≡ byte (type_field_bytes s ++ term_field_bytes s) j
  at_type i j e = ap (byte (lean_sheet s)) e ∙ type_part j

  pub type_tag : byte (lean_sheet s) (type_field (lean_sheet s)) ≡ 3
  type_tag = at_type (type_field (lean_sheet s)) 0 (omega (arith, same_type_field))

  pub type_size : word16 (lean_sheet s) (type_field (lean_sheet s) + 1) ≡ 10 * new_types s
  type_size =
      (λ i. at_type (type_field (lean_sheet s) + 1) 1 (omega (arith, same_type_field)) i * 256
      + at_type (type_field (lean_sheet s) + 1 + 1) 2 (omega (arith, same_type_field)) i)
      ∙ written16 (10 * new_types s)

  pub types_are : types (lean_sheet s) ≡ new_types s
  types_are = ap (λ (x : ℕ). x / 10) type_size ∙ omega arith

  type_length : length (type_field_bytes s) ≡ 3 + 10 * new_types s
  unfolding new_types
  type_length = omega (arith, gather_length (kept_type s) (type_bytes s) 10 (λ t. refl) (types s))

  -- byte j of the record of a type that is kept
  pub type_byte : (t : ℕ) → kept_type s t ≡ true → t < types s → (j : ℕ) → j < 10
      → byte (lean_sheet s) (type_at (lean_sheet s) (kept_below (kept_type s) t) + j) ≡ byte (type_bytes s t) j
  type_byte t k l j h =
      at_type (type_at (lean_sheet s) (kept_below (kept_type s) t) + j) (3 + (10 * kept_below (kept_type s) t + j)) (omega (arith, same_type_field))
      ∙ past_header 3 (10 * new_types s) (gather (kept_type s) (type_bytes s) (types s) ++ term_field_bytes s) (10 * kept_below (kept_type s) t + j)
      ∙ get_or-append (gather (kept_type s) (type_bytes s) (types s)) (term_field_bytes s) 0 (10 * kept_below (kept_type s) t + j)
      (gather_inside (kept_type s) (type_bytes s) 10 (λ t. refl) (types s) t k l j h)
      ∙ gather_at (kept_type s) (type_bytes s) 10 (λ t. refl) (types s) t k l j h

  -- ---- the terms
  pub term_field_is : term_field (lean_sheet s) ≡ type_field s + (3 + 10 * new_types s)
  term_field_is = omega (arith, same_type_field, types_are)

  at_term : (i j : ℕ) → i ≡ term_field (lean_sheet s) + j → byte (lean_sheet s) i ≡ byte (term_field_bytes s) j
  at_term i j e =
      at_type i (length (type_field_bytes s) + j) (omega (arith, term_field_is, type_length)) ∙ get_or-append-add (type_field_bytes s) (term_field_bytes s) j 0

  pub term_tag : byte (lean_sheet s) (term_field (lean_sheet s)) ≡ 4
  term_tag = at_term (term_field (lean_sheet s)) 0 (omega arith)

  pub term_size : word16 (lean_sheet s) (term_field (lean_sheet s) + 1) ≡ 8 * new_terms s
  term_size =
      (λ i. at_term (term_field (lean_sheet s) + 1) 1 refl i * 256 + at_term (term_field (lean_sheet s) + 1 + 1) 2 (omega arith) i)
      ∙ written16 (8 * new_terms s)

  pub terms_are : terms (lean_sheet s) ≡ new_terms s
  terms_are = ap (λ (x : ℕ). x / 8) term_size ∙ omega arith

  pub lean_length : length (lean_sheet s) ≡ term_at (lean_sheet s) (new_terms s)
  unfolding lean_sheet new_terms
  lean_length =
      length-append (take (type_field s) s) (type_field_bytes s ++ term_field_bytes s)
      ∙ omega (
        arith,
        head_length,
        length-append (type_field_bytes s) (term_field_bytes s),
        type_length,
        term_field_is,
        gather_length (kept_term s) (term_bytes s) 8 (λ t. refl) (terms s),
      )

  -- the length that is told
  pub lean_size : length (lean_sheet s) ≡ 14 + 4 * principals s + 10 * new_types s + 8 * new_terms s
  lean_size = lean_length ∙ omega (arith, term_field_is)

  -- nothing is added, so that a buffer as long as the sheet has room
  pub lean_shorter : length (lean_sheet s) ≤ length s
  unfolding new_types new_terms
  lean_shorter = omega (arith, lean_size, w.terms_inside, kept_most (kept_type s) (types s), kept_most (kept_term s) (terms s))

  pub term_byte : (t : ℕ) → kept_term s t ≡ true → t < terms s → (j : ℕ) → j < 8
      → byte (lean_sheet s) (term_at (lean_sheet s) (kept_below (kept_term s) t) + j) ≡ byte (term_bytes s t) j
  term_byte t k l j h =
      at_term (term_at (lean_sheet s) (kept_below (kept_term s) t) + j) (3 + (8 * kept_below (kept_term s) t + j)) (omega arith)
      ∙ past_header 4 (8 * new_terms s) (gather (kept_term s) (term_bytes s) (terms s)) (8 * kept_below (kept_term s) t + j)
      ∙ gather_at (kept_term s) (term_bytes s) 8 (λ t. refl) (terms s) t k l j h

  -- ---- the records, part by part
  module _ (t : ℕ) (k : kept_type s t ≡ true) (l : t < types s) where
    abbrev type_place : ℕ
    type_place = type_at (lean_sheet s) (kept_below (kept_type s) t)

    type_at_lem : (i j : ℕ) → i ≡ type_place + j → j < 10 → byte (lean_sheet s) i ≡ byte (type_bytes s t) j
    type_at_lem i j e h = ap (byte (lean_sheet s)) e ∙ type_byte t k l j h

    pub type_kind : byte (lean_sheet s) type_place ≡ byte s (type_at s t)
    type_kind = type_at_lem type_place 0 (omega arith) (omega arith)

    pub type_zero : byte (lean_sheet s) (type_place + 1) ≡ 0
    type_zero = type_at_lem (type_place + 1) 1 refl (omega arith)

    pub type_arg : (types_of (lean_sheet s)).arg (kept_below (kept_type s) t) ≡ new_type s ((types_of s).arg t)
    type_arg =
        (λ i. type_at_lem (type_place + 2) 2 refl (omega arith) i * 256 + type_at_lem (type_place + 2 + 1) 3 (omega arith) (omega arith) i)
        ∙ written16 (new_type s ((types_of s).arg t))

    pub type_res : (types_of (lean_sheet s)).res (kept_below (kept_type s) t) ≡ new_type s ((types_of s).res t)
    type_res =
        (λ i. type_at_lem (type_place + 4) 4 refl (omega arith) i * 256 + type_at_lem (type_place + 4 + 1) 5 (omega arith) (omega arith) i)
        ∙ written16 (new_type s ((types_of s).res t))

    pub type_latent : (types_of (lean_sheet s)).latent (kept_below (kept_type s) t) ≡ 0
    type_latent = λ i.
        (type_at_lem (type_place + 6) 6 refl (omega arith) i * 256 + type_at_lem (type_place + 6 + 1) 7 (omega arith) (omega arith) i) * 65536
        + (type_at_lem (type_place + 6 + 2) 8 (omega arith) (omega arith) i * 256 + type_at_lem (type_place + 6 + 2 + 1) 9 (omega arith) (omega arith) i)

  module _ (t : ℕ) (k : kept_term s t ≡ true) (l : t < terms s) where
    abbrev term_place : ℕ
    term_place = term_at (lean_sheet s) (kept_below (kept_term s) t)

    term_at_lem : (i j : ℕ) → i ≡ term_place + j → j < 8 → byte (lean_sheet s) i ≡ byte (term_bytes s t) j
    term_at_lem i j e h = ap (byte (lean_sheet s)) e ∙ term_byte t k l j h

    pub term_kind : kind_byte (lean_sheet s) (kept_below (kept_term s) t) ≡ kind_byte s t
    term_kind = term_at_lem term_place 0 (omega arith) (omega arith)

    pub term_small : small (lean_sheet s) (kept_below (kept_term s) t) ≡ small s t
    term_small = term_at_lem (term_place + 1) 1 refl (omega arith)

    pub term_first : first (lean_sheet s) (kept_below (kept_term s) t) ≡ new_part s (format_at s t).first (first s t)
    term_first =
        (λ i. term_at_lem (term_place + 2) 2 refl (omega arith) i * 256 + term_at_lem (term_place + 2 + 1) 3 (omega arith) (omega arith) i)
        ∙ written16 (new_part s (format_at s t).first (first s t))

    pub term_second : second (lean_sheet s) (kept_below (kept_term s) t) ≡ new_part s (format_at s t).second (second s t)
    term_second =
        (λ i. term_at_lem (term_place + 4) 4 refl (omega arith) i * 256 + term_at_lem (term_place + 4 + 1) 5 (omega arith) (omega arith) i)
        ∙ written16 (new_part s (format_at s t).second (second s t))

    pub term_third : third (lean_sheet s) (kept_below (kept_term s) t) ≡ new_part s (format_at s t).third (third s t)
    term_third =
        (λ i. term_at_lem (term_place + 6) 6 refl (omega arith) i * 256 + term_at_lem (term_place + 6 + 1) 7 (omega arith) (omega arith) i)
        ∙ written16 (new_part s (format_at s t).third (third s t))
