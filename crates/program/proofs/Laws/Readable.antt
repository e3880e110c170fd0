-- What a readable sheet has, condition by condition.
use Rattle.std.specs.Prelude.{Bool, true, false, cond, ◌||◌, List, ◌⊎◌, ◌≡◌, refl, ℕ, ◌+◌, ◌*◌, ◌/◌, ◌<◌, ◌≤◌, eqb, length}
use Rattle.std.proofs.Common.{inl, inr, sym, ◌∙◌, arith, leb-true, eqb-true}
use Rattle.program.specs.Limits.{max_principals, max_types, max_terms, max_channels, max_nesting}
use Rattle.privileges.specs.Booleans.{and_left, and_right}
use Rattle.program.specs.Bytes.{byte, word16}
use Rattle.program.specs.Layout.{version, has_guards, principals, type_field, types, term_field, terms, term_at, guard_field, guard_at, sheet_end}
use Rattle.program.specs.Screening.{None, none_end, none_next}
use Rattle.program.specs.Decoding.{holds, field, type_ok, term_ok, placed_ok, nested_in, guard_ok, guard_conditions, field_conditions, table_conditions, decoding_conditions, decoding, Readable}
use Rattle.program.proofs.Laws.Screening.{clear_none, none_cons, none_append, unless_none, lowest_none}

-- ---- the fields
record FieldOk (s : List ℕ) (o tag : ℕ) (ok : ℕ → Bool) : Type 0 where
  header : o + 3 ≤ length s
  tagged : byte s o ≡ tag
  sized : ok (word16 s (o + 1)) ≡ true
  content : o + 3 + word16 s (o + 1) ≤ length s

field_ok : (s : List ℕ) (o tag : ℕ) (ok : ℕ → Bool) → None (field s o tag ok) → FieldOk s o tag ok
field_ok s o tag ok (none_next a (none_next b (none_next c (none_next d none_end)))) = record {
  header = leb-true (o + 3) (length s) (unless_none 1 _ a);
  tagged = eqb-true (byte s o) tag (unless_none 2 _ b);
  sized = unless_none 4 _ c;
  content = leb-true (o + 3 + word16 s (o + 1)) (length s) (unless_none 1 _ d);
}

pub record WholeRecords (size least most n : ℕ) : Type 0 where
  pub exact : n / size * size ≡ n
  pub low : least ≤ n / size
  pub high : n / size ≤ most

pub counted : (size least most n : ℕ) → holds size least most n ≡ true → WholeRecords size least most n
counted size least most n h = record {
  exact = eqb-true (n / size * size) n (search (and_left, and_right));
  low = leb-true least (n / size) (search (and_left, and_right));
  high = leb-true (n / size) most (search (and_left, and_right));
}

-- ---- where the sheet ends: with the terms, or in version 2 with the guards
pub known_version : (v : ℕ) → (eqb v 1 || eqb v 2) ≡ true → (v ≡ 1) ⊎ (v ≡ 2)
known_version v h = go (eqb v 1) refl h
  where
    go : (b : Bool) → eqb v 1 ≡ b → (b || eqb v 2) ≡ true → (v ≡ 1) ⊎ (v ≡ 2)
    go true e h = inl (eqb-true v 1 e)
    go false e h = inr (eqb-true v 2 h)

pub terms_within : (s : List ℕ) → sheet_end s ≡ length s → term_at s (terms s) ≤ length s
terms_within s e = go (has_guards s) e
  where
    go : (b : Bool) → cond b (guard_at s max_channels) (guard_field s) ≡ length s → term_at s (terms s) ≤ length s
    go true e = omega arith
    go false e = omega arith

pub guards_end : (s : List ℕ) → sheet_end s ≡ length s → has_guards s ≡ true → guard_at s max_channels ≡ length s
guards_end s e h = (λ i. cond (sym h i) (guard_at s max_channels) (guard_field s)) ∙ e

pub terms_end : (s : List ℕ) → sheet_end s ≡ length s → has_guards s ≡ false → term_at s (terms s) ≡ length s
terms_end s e h = (λ i. cond (sym h i) (guard_at s max_channels) (guard_field s)) ∙ e

-- ---- the whole sheet
pub record WellFormed (s : List ℕ) : Type 0 where
  pub version_known : (version s ≡ 1) ⊎ (version s ≡ 2)
  pub principals_least : 1 ≤ principals s
  pub principals_most : principals s ≤ max_principals
  pub types_least : 2 ≤ types s
  pub types_most : types s ≤ max_types
  pub terms_least : 1 ≤ terms s
  pub terms_most : terms s ≤ max_terms
  pub whole : sheet_end s ≡ length s
  pub terms_inside : term_at s (terms s) ≤ length s
  pub type_ok_holds : (t : ℕ) → t < types s → type_ok s t ≡ true
  pub term_ok_holds : (t : ℕ) → t < terms s → term_ok s t ≡ true
  pub placed_ok_holds : (t : ℕ) → t < terms s → placed_ok s t ≡ true
  pub nested_ok : (t : ℕ) → t < terms s → nested_in s max_nesting t ≡ true
  pub guard_ok_holds : (c : ℕ) → c < max_channels → guard_ok s c ≡ true

-- what the fields give
pub record FieldsOk (s : List ℕ) : Type 0 where
  pub version_is : (version s ≡ 1) ⊎ (version s ≡ 2)
  pub principals_low : 1 ≤ principals s
  pub principals_high : principals s ≤ max_principals
  pub types_low : 2 ≤ types s
  pub types_high : types s ≤ max_types
  pub terms_low : 1 ≤ terms s
  pub terms_high : terms s ≤ max_terms
  pub ends : sheet_end s ≡ length s
  pub terms_in : term_at s (terms s) ≤ length s

pub fields_ok : (s : List ℕ) → None (field_conditions s) → FieldsOk s
fields_ok s n =
    let a = none_append (field s 0 1 (holds 2 1 1)) _ n in
    let v = none_cons a.1 in
    let b = none_append (field s 5 2 (holds 4 1 max_principals)) _ v.1 in
    let c = none_append (field s (type_field s) 3 (holds 10 2 max_types)) _ b.1 in
    let d = none_append (field s (term_field s) 4 (holds 8 1 max_terms)) _ c.1 in
    let e = none_cons (none_append (guard_conditions s) _ d.1).1 in
    let end : sheet_end s ≡ length s = eqb-true (sheet_end s) (length s) (unless_none 2 _ e.0) in
    let cp = counted 4 1 max_principals (word16 s 6) (field_ok s 5 2 (holds 4 1 max_principals) b.0).sized in
    let cy = counted 10 2 max_types (word16 s (type_field s + 1)) (field_ok s (type_field s) 3 (holds 10 2 max_types) c.0).sized in
    let cm = counted 8 1 max_terms (word16 s (term_field s + 1)) (field_ok s (term_field s) 4 (holds 8 1 max_terms) d.0).sized in
    record {
      version_is = known_version (version s) (unless_none 3 _ v.0);
      principals_low = cp.low;
      principals_high = cp.high;
      types_low = cy.low;
      types_high = cy.high;
      terms_low = cm.low;
      terms_high = cm.high;
      ends = end;
      terms_in = terms_within s end;
    }

tables_ok : (s : List ℕ) → FieldsOk s → None (table_conditions s) → WellFormed s
tables_ok s f (none_next a (none_next b (none_next c (none_next d (none_next e none_end))))) = record {
  version_known = f.version_is;
  principals_least = f.principals_low;
  principals_most = f.principals_high;
  types_least = f.types_low;
  types_most = f.types_high;
  terms_least = f.terms_low;
  terms_most = f.terms_high;
  whole = f.ends;
  terms_inside = f.terms_in;
  type_ok_holds = λ t h. lowest_none (type_ok s) 0 (types s) a t (omega arith) (omega arith);
  term_ok_holds = λ t h. lowest_none (term_ok s) 0 (terms s) b t (omega arith) (omega arith);
  placed_ok_holds = λ t h. lowest_none (placed_ok s) 0 (terms s) c t (omega arith) (omega arith);
  nested_ok = λ t h. lowest_none (nested_in s max_nesting) 0 (terms s) d t (omega arith) (omega arith);
  guard_ok_holds = λ t h. lowest_none (guard_ok s) 0 max_channels e t (omega arith) (omega arith);
}

pub well_formed : (s : List ℕ) → Readable s → WellFormed s
unfolding decoding
well_formed s e =
    let n = none_append (field_conditions s) (table_conditions s) (clear_none (decoding_conditions s) e) in
    tables_ok s (fields_ok s n.0) n.1
