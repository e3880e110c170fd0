-- The reader's refusals 1 to 8 and their order: 01, "Who can cause which refusal"; and 31 of 02's W8. A sheet is readable if none of them is found.
use Rattle.std.specs.Prelude.{Bool, true, false, not, cond, ◌&&◌, ◌||◌, List, [], ◌∷◌, ◌++◌, ◌≡◌, ℕ, zero, suc, ◌+◌, ◌*◌, ◌/◌, leb, ltb, eqb, length}
use Rattle.program.specs.Limits.{max_principals, max_types, max_terms, max_channels, no_guard, max_type_depth, max_nesting, max_privilege}
use Rattle.program.specs.Tests.{also, or_else}
use Rattle.program.specs.Bytes.{byte, word16}
use Rattle.program.specs.Layout.{version, has_guards, principals, type_field, types, type_at, term_field, terms, guard_field, sheet_end, channels, guard_byte, root, kind_byte, small, first, second, third, types_of}
use Rattle.program.specs.Formats.{Part, unused, flag, any_number, privilege, principal, channel, function_type, child, body_child, is_child, Format, kind_of, format}
use Rattle.program.specs.Screening.{Condition, Screening, clear, unless, seek, screen}

-- ---- 1 to 4: the fields

-- a length that holds whole records of a size, at least and at most so many
abbrev pub holds : (size least most length : ℕ) → Bool
holds size least most n = eqb (n / size * size) n && leb least (n / size) && leb (n / size) most

-- "Field by field: header (1), tag (2), length (4), content (1)". The field's tag stands at o.
abbrev pub field : List ℕ → (o tag : ℕ) → (ℕ → Bool) → List Condition
field s o tag ok =
    unless 1 (leb (o + 3) (length s)) ∷ unless 2 (eqb (byte s o) tag) ∷ unless 4 (ok (word16 s (o + 1)))
    ∷ unless 1 (leb (o + 3 + word16 s (o + 1)) (length s)) ∷ []

-- ---- 5: type records

-- "Type 0 is the boolean and type 1 the number, with the rest zero"
abbrev pub base_ok : List ℕ → (t : ℕ) → Bool
base_ok s t =
    eqb (byte s (type_at s t)) t && eqb (byte s (type_at s t + 1)) 0 && eqb ((types_of s).arg t) 0 && eqb ((types_of s).res t) 0
    && eqb ((types_of s).latent t) 0

-- "all others are functions of types with lower numbers"
abbrev pub function_ok : List ℕ → (t : ℕ) → Bool
function_ok s t = eqb (byte s (type_at s t)) 2 && eqb (byte s (type_at s t + 1)) 0 && ltb ((types_of s).arg t) t && ltb ((types_of s).res t) t

-- "nested at most 12 deep, types 0 and 1 counting 0"
abbrev pub shallow : List ℕ → (deep t : ℕ) → Bool
shallow s zero t = ltb t 2
shallow s (suc k) t = or_else (ltb t 2) λ _. also (shallow s k ((types_of s).arg t)) λ _. shallow s k ((types_of s).res t)

-- so many bytes at i and at j agree
abbrev pub same_bytes : List ℕ → (i j count : ℕ) → Bool
same_bytes s i j zero = true
same_bytes s i j (suc n) = eqb (byte s (i + n)) (byte s (j + n)) && same_bytes s i j n

-- "No two records are equal": the record of t differs from those of the first so many types
abbrev pub fresh : List ℕ → (t count : ℕ) → Bool
fresh s t zero = true
fresh s t (suc u) = not (same_bytes s (type_at s u) (type_at s t) 10) && fresh s t u

abbrev pub type_ok : List ℕ → (t : ℕ) → Bool
type_ok s t = cond (ltb t 2) (base_ok s t) (function_ok s t && shallow s max_type_depth t && fresh s t t)

-- ---- 6: term records

-- "a part lies outside its range or table, a child isn't lower, a type isn't a function where one is due, or an unused part isn't zero; a variable's number
-- is never 6"
abbrev pub part_ok : List ℕ → (t : ℕ) → Part → (value : ℕ) → Bool
part_ok s t unused x = eqb x 0
part_ok s t flag x = leb x 1
part_ok s t any_number x = true
part_ok s t privilege x = leb x max_privilege
part_ok s t principal x = ltb x (principals s)
-- 02, W8: "a channel, 0 to 15"; in version 1 there is channel 0 alone, so that the part is zero as before
part_ok s t channel x = ltb x (channels s)
part_ok s t function_type x = (types_of s).is_fun x
part_ok s t child x = ltb x t
part_ok s t body_child x = ltb x t

abbrev pub format_at : List ℕ → (t : ℕ) → Format
format_at s t = format (kind_of (kind_byte s t))

-- "its kind is above 14", or a part is wrong
abbrev pub term_ok : List ℕ → (t : ℕ) → Bool
term_ok s t =
    leb (kind_byte s t) 14 && part_ok s t (format_at s t).small (small s t) && part_ok s t (format_at s t).first (first s t)
    && part_ok s t (format_at s t).second (second s t) && part_ok s t (format_at s t).third (third s t)

-- ---- 7: parents and signs

abbrev pub child_count : Part → (value x : ℕ) → ℕ
child_count part value x = cond (is_child part && eqb value x) 1 0

-- how often x stands among the children of t
abbrev pub times_in : List ℕ → (x t : ℕ) → ℕ
times_in s x t =
    child_count (format_at s t).first (first s t) x + child_count (format_at s t).second (second s t) x + child_count (format_at s t).third (third s t) x

-- and among those of the first so many terms
abbrev pub times_below : List ℕ → (x count : ℕ) → ℕ
times_below s x zero = 0
times_below s x (suc t) = times_in s x t + times_below s x t

abbrev pub is_sign : List ℕ → (t : ℕ) → Bool
is_sign s t = eqb (kind_byte s t) 9

abbrev pub signed_body : List ℕ → Part → (value : ℕ) → Bool
signed_body s unused x = true
signed_body s flag x = true
signed_body s any_number x = true
signed_body s privilege x = true
signed_body s principal x = true
signed_body s channel x = true
signed_body s function_type x = true
signed_body s child x = true
signed_body s body_child x = is_sign s x

-- "Every term but the root stands once as a child. The root and all bodies of kinds 3 and 4 are signs."
abbrev pub placed_ok : List ℕ → (t : ℕ) → Bool
placed_ok s t =
    eqb (times_below s t (terms s)) (cond (eqb t (root s)) 0 1) && signed_body s (format_at s t).second (second s t)
    && (not (eqb t (root s)) || is_sign s t)

-- ---- 8: nesting

-- the term among the first so many that has x as a child
abbrev pub parent : List ℕ → (x count : ℕ) → ℕ
parent s x zero = 0
parent s x (suc t) = elim (eqb (times_in s x t) 0) [ true ↦ parent s x t | false ↦ t ]

-- "Nesting is at most 32, the root counting 1."
abbrev pub nested_in : List ℕ → (deep t : ℕ) → Bool
nested_in s zero t = false
nested_in s (suc k) t = or_else (eqb t (root s)) λ _. nested_in s k (parent s t (terms s))

-- ---- 31: guards

-- 02, W8: "for each channel a privilege 0 to 31, or 255 for none. … any other privilege byte is 31 at its channel"
abbrev pub is_guard : (byte : ℕ) → Bool
is_guard x = leb x max_privilege || eqb x no_guard

abbrev pub guard_ok : List ℕ → (c : ℕ) → Bool
guard_ok s c = is_guard (guard_byte s c)

-- ---- all of them

-- 02, W8: "The tag, length and cutting refusals cover tag 5", which version 2 alone has
abbrev pub guard_conditions : List ℕ → List Condition
guard_conditions s = cond (has_guards s) (field s (guard_field s) 5 (holds max_channels 1 1)) []

-- "version (3)" follows the first field; "then bytes after the end (2)"
abbrev pub field_conditions : List ℕ → List Condition
field_conditions s =
    field s 0 1 (holds 2 1 1) ++ unless 3 (eqb (version s) 1 || eqb (version s) 2)
    ∷ field s 5 2 (holds 4 1 max_principals) ++ field s (type_field s) 3 (holds 10 2 max_types) ++ field s (term_field s) 4 (holds 8 1 max_terms)
    ++ guard_conditions s ++ unless 2 (eqb (sheet_end s) (length s)) ∷ []

-- "Each is sought over the whole table in ascending order before the next." 02, W8: 31 comes "straight after 8 and before all else".
abbrev pub table_conditions : List ℕ → List Condition
table_conditions s =
    seek 5 (type_ok s) (types s) ∷ seek 6 (term_ok s) (terms s) ∷ seek 7 (placed_ok s) (terms s)
    ∷ seek 8 (nested_in s max_nesting) (terms s) ∷ seek 31 (guard_ok s) max_channels ∷ []

abbrev pub decoding_conditions : List ℕ → List Condition
decoding_conditions s = field_conditions s ++ table_conditions s

-- 01's reader
unfoldable pub decoding : List ℕ → Screening
decoding s = screen (decoding_conditions s)

abbrev pub Readable : List ℕ → Type 0
Readable s = decoding s ≡ clear
