-- The lean sheet, from the bytes of an accepted sheet of version 1 without tests. 02, W9: "a sheet with its checks and enables gone and every latent set
-- empty. Type records that become equal are merged into the first of them, and types and terms keep their old order."
use Rattle.std.specs.Prelude.{Bool, true, not, cond, ◌&&◌, List, [], ◌∷◌, ◌++◌, ℕ, zero, suc, ◌*◌, ◌/◌, ◌%◌, leb, eqb, get_or, take}
use Rattle.std.proofs.Math.Option.{Option, none, some}
use Rattle.program.specs.Bytes.{byte}
use Rattle.program.specs.Layout.{version, type_field, types, type_at, terms, kind_byte, small, first, second, third, types_of}
use Rattle.program.specs.Formats.{Part, unused, flag, any_number, privilege, principal, channel, function_type, child, body_child}
use Rattle.program.specs.Screening.{lowest}
use Rattle.program.specs.Decoding.{format_at}
use Rattle.erasure.specs.Kept.{kept_below, gather}

-- ---- types

-- The records of t and u become equal: of the same kind, with arguments and results that are merged into the same types. `representatives` tells of the types
-- below t into which they are merged.
abbrev pub alike : List ℕ → (representatives : List ℕ) → (t u : ℕ) → Bool
alike s representatives t u =
    eqb (byte s (type_at s u)) (byte s (type_at s t))
    && eqb (get_or representatives ((types_of s).arg u) 0) (get_or representatives ((types_of s).arg t) 0)
    && eqb (get_or representatives ((types_of s).res u) 0) (get_or representatives ((types_of s).res t) 0)

abbrev pub or_self : (self : ℕ) → Option ℕ → ℕ
or_self t none = t
or_self t (some u) = u

-- "merged into the first of them"
abbrev pub first_alike : List ℕ → (representatives : List ℕ) → (t : ℕ) → ℕ
first_alike s representatives t = or_self t (lowest (λ u. not (alike s representatives t u)) 0 t)

abbrev pub with_representative : List ℕ → (t : ℕ) → (representatives : List ℕ) → List ℕ
with_representative s t representatives = representatives ++ first_alike s representatives t ∷ []

-- of the first so many types, the type into which each is merged
unfoldable pub representatives : List ℕ → (count : ℕ) → List ℕ
representatives s zero = []
representatives s (suc t) = with_representative s t (representatives s t)

unfoldable pub representative : List ℕ → (type : ℕ) → ℕ
representative s t = get_or (representatives s (types s)) t 0

unfoldable pub kept_type : List ℕ → (type : ℕ) → Bool
kept_type s t = eqb (representative s t) t

unfoldable pub new_types : List ℕ → ℕ
new_types s = kept_below (kept_type s) (types s)

unfoldable pub new_type : List ℕ → (type : ℕ) → ℕ
new_type s t = kept_below (kept_type s) (representative s t)

-- ---- terms

-- a check or an enable: "what their acceptance makes idle"
abbrev pub is_erased : List ℕ → (term : ℕ) → Bool
is_erased s t = leb 7 (kind_byte s t) && leb (kind_byte s t) 8

unfoldable pub kept_term : List ℕ → (term : ℕ) → Bool
kept_term s t = not (is_erased s t)

-- what stands in a term's place: the first inner term that is neither check nor enable; children are lower, so t steps reach it
unfoldable pub inner_in : List ℕ → (steps t : ℕ) → ℕ
inner_in s zero t = t
inner_in s (suc k) t = cond (is_erased s t) (inner_in s k (first s t)) t

unfoldable pub inner : List ℕ → (term : ℕ) → ℕ
inner s t = inner_in s t t

unfoldable pub new_terms : List ℕ → ℕ
new_terms s = kept_below (kept_term s) (terms s)

unfoldable pub new_term : List ℕ → (term : ℕ) → ℕ
new_term s t = kept_below (kept_term s) (inner s t)

-- ---- the bytes

-- "all numbers have their highest byte first"
abbrev pub bytes16 : ℕ → List ℕ
bytes16 x = x / 256 ∷ x % 256 ∷ []

-- a type's record: its parts renumbered, "every latent set empty"
abbrev pub type_bytes : List ℕ → (type : ℕ) → List ℕ
type_bytes s t =
    byte s (type_at s t) ∷ 0 ∷ bytes16 (new_type s ((types_of s).arg t)) ++ bytes16 (new_type s ((types_of s).res t)) ++ 0 ∷ 0 ∷ 0 ∷ 0 ∷ []

-- a part of a term's record
abbrev pub new_part : List ℕ → Part → (value : ℕ) → ℕ
new_part s unused x = x
new_part s flag x = x
new_part s any_number x = x
new_part s privilege x = x
new_part s principal x = x
new_part s channel x = x
new_part s function_type x = new_type s x
new_part s child x = new_term s x
new_part s body_child x = new_term s x

abbrev pub term_bytes : List ℕ → (term : ℕ) → List ℕ
term_bytes s t =
    kind_byte s t ∷ small s t ∷ bytes16 (new_part s (format_at s t).first (first s t)) ++ bytes16 (new_part s (format_at s t).second (second s t))
    ++ bytes16 (new_part s (format_at s t).third (third s t))

abbrev pub type_field_bytes : List ℕ → List ℕ
type_field_bytes s = 3 ∷ bytes16 (10 * new_types s) ++ gather (kept_type s) (type_bytes s) (types s)

abbrev pub term_field_bytes : List ℕ → List ℕ
term_field_bytes s = 4 ∷ bytes16 (8 * new_terms s) ++ gather (kept_term s) (term_bytes s) (terms s)

-- version and principals are copied
unfoldable pub lean_sheet : List ℕ → List ℕ
lean_sheet s = take (type_field s) s ++ (type_field_bytes s ++ term_field_bytes s)

-- ---- which sheets have one

-- no test among the first so many terms
unfoldable pub untested : List ℕ → (count : ℕ) → Bool
untested s zero = true
untested s (suc t) = not (eqb (kind_byte s t) 10) && untested s t

-- "an accepted version 1 sheet without tests"
unfoldable pub erasable : List ℕ → Bool
erasable s = eqb (version s) 1 && untested s (terms s)
