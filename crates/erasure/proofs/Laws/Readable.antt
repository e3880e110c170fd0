-- The lean sheet of a readable sheet of version 1 is readable: none of 1 to 8 and 31 is found.
use Rattle.std.specs.Prelude.{Bool, true, ◌||◌, List, [], ◌∷◌, ◌++◌, ◌≡◌, refl, ℕ, zero, suc, ◌+◌, ◌*◌, ◌/◌, ◌<◌, ◌≤◌, eqb, length}
use Rattle.std.proofs.Math.Option.{none}
use Rattle.std.proofs.Common.{sym, ap, ◌∙◌, subst, arith, leb-true, eqb-true, eq-eqb, le-leb}
use Rattle.privileges.specs.Booleans.{and_left, and_right, and_both}
use Rattle.program.specs.Bytes.{byte, word16}
use Rattle.program.specs.Limits.{max_principals, max_types, max_terms, max_nesting}
use Rattle.program.specs.Layout.{version, type_field, types, term_field, terms, term_at, sheet_end}
use Rattle.program.specs.Screening.{None, none_end, none_next, onward, lowest, unless}
use Rattle.program.specs.Decoding.{holds, field, type_ok, term_ok, placed_ok, nested_in, guard_conditions, field_conditions, table_conditions, decoding_conditions, decoding, Readable}
use Rattle.program.proofs.Laws.Screening.{clear_none, none_clear, none_append, append_none, none_cons, unless_none, none_unless}
use Rattle.program.proofs.Laws.Readable.{WellFormed, well_formed}
use Rattle.program.proofs.Laws.Guards.{without_guards}
use Rattle.erasure.specs.Lean.{new_types, new_terms, lean_sheet}
use Rattle.erasure.proofs.Laws.Bytes.{copied, same_version, same_type_field, type_tag, type_size, types_are, term_field_is, term_tag, term_size, terms_are, lean_length}
use Rattle.erasure.proofs.Laws.Types.{new_type_ok, new_types_least, new_types_most}
use Rattle.erasure.proofs.Laws.Terms.{new_terms_are, new_terms_most, new_term_ok}
use Rattle.erasure.proofs.Laws.Places.{new_placed_ok}
use Rattle.erasure.proofs.Laws.Nesting.{new_nested}

-- a test that holds of all is nowhere found to fail
lowest_all : (ok : ℕ → Bool) (i n : ℕ) → ((x : ℕ) → x < i + n → ok x ≡ true) → lowest ok i n ≡ none
lowest_all ok i zero h = refl
lowest_all ok i (suc n) h =
    (λ k. onward (h i (omega arith) k) i (λ _. lowest ok (suc i) n)) ∙ lowest_all ok (suc i) n (λ x l. h x (omega arith))

field_none : (s : List ℕ) (o tag : ℕ) (ok : ℕ → Bool) → byte s o ≡ tag → ok (word16 s (o + 1)) ≡ true → o + 3 + word16 s (o + 1) ≤ length s
    → None (field s o tag ok)
field_none s o tag ok b c d =
    none_next (none_unless 1 (le-leb (o + 3) (length s) (omega arith)))
    (none_next (none_unless 2 (eq-eqb (byte s o) tag b))
    (none_next (none_unless 4 c) (none_next (none_unless 1 (le-leb (o + 3 + word16 s (o + 1)) (length s) d)) none_end)))

record FieldRead (s : List ℕ) (o tag : ℕ) (ok : ℕ → Bool) : Type 0 where
  tagged : byte s o ≡ tag
  sized : ok (word16 s (o + 1)) ≡ true

field_has : (s : List ℕ) (o tag : ℕ) (ok : ℕ → Bool) → None (field s o tag ok) → FieldRead s o tag ok
field_has s o tag ok (none_next a (none_next b (none_next c (none_next d none_end)))) = record {
  tagged = eqb-true (byte s o) tag (unless_none 2 _ b);
  sized = unless_none 4 _ c;
}

-- a length of whole records
exact : (size least most n : ℕ) → holds size least most n ≡ true → n / size * size ≡ n
exact size least most n h = eqb-true (n / size * size) n (search (h, and_left, and_right))

at_most : (size least most n : ℕ) → holds size least most n ≡ true → n / size ≤ most
at_most size least most n h = leb-true (n / size) most (search (h, and_left, and_right))

holds_ten : (n : ℕ) → 2 ≤ n → n ≤ max_types → holds 10 2 max_types (10 * n) ≡ true
holds_ten n l h =
    let e : 10 * n / 10 ≡ n = omega arith in
    and_both (and_both (eq-eqb (10 * n / 10 * 10) (10 * n) (omega arith)) (le-leb 2 (10 * n / 10) (omega arith))) (le-leb (10 * n / 10) max_types (omega arith))

holds_eight : (n : ℕ) → 1 ≤ n → n ≤ max_terms → holds 8 1 max_terms (8 * n) ≡ true
holds_eight n l h =
    let e : 8 * n / 8 ≡ n = omega arith in
    and_both (and_both (eq-eqb (8 * n / 8 * 8) (8 * n) (omega arith)) (le-leb 1 (8 * n / 8) (omega arith))) (le-leb (8 * n / 8) max_terms (omega arith))

module _ (s : List ℕ) (r : Readable s) (version_1 : version s ≡ 1) where
  w : WellFormed s
  w = well_formed s r

  record FieldCopied : Type 0 where
    first_field : FieldRead s 0 1 (holds 2 1 1)
    second_field : FieldRead s 5 2 (holds 4 1 max_principals)

  copied_fields : FieldCopied
  unfolding decoding
  copied_fields =
      let n = (none_append (field_conditions s) (table_conditions s) (clear_none (decoding_conditions s) r)).0 in
      let a = none_append (field s 0 1 (holds 2 1 1)) _ n in
      let b = none_append (field s 5 2 (holds 4 1 max_principals)) _ (none_cons a.1).1 in
      record { first_field = field_has s 0 1 (holds 2 1 1) a.0; second_field = field_has s 5 2 (holds 4 1 max_principals) b.0 }

  lean_version : version (lean_sheet s) ≡ 1
  lean_version = same_version s w ∙ version_1

  room : length (lean_sheet s) ≡ type_field s + (3 + 10 * new_types s) + 3 + 8 * new_terms s
  room = lean_length s w ∙ omega (arith, term_field_is s w)

  field_1 : None (field (lean_sheet s) 0 1 (holds 2 1 1))
  field_1 =
      let f = copied_fields.first_field in
      let e : word16 (lean_sheet s) 1 ≡ word16 s 1 = λ i. copied s w 1 (omega arith) i * 256 + copied s w 2 (omega arith) i in
      field_none (lean_sheet s) 0 1 (holds 2 1 1) (copied s w 0 (omega arith) ∙ f.tagged) (ap (holds 2 1 1) e ∙ f.sized)
      (omega (arith, e, room, exact 2 1 1 (word16 s 1) f.sized, at_most 2 1 1 (word16 s 1) f.sized))

  field_2 : None (field (lean_sheet s) 5 2 (holds 4 1 max_principals))
  field_2 =
      let f = copied_fields.second_field in
      let e : word16 (lean_sheet s) 6 ≡ word16 s 6 = λ i. copied s w 6 (omega arith) i * 256 + copied s w 7 (omega arith) i in
      field_none (lean_sheet s) 5 2 (holds 4 1 max_principals) (copied s w 5 (omega arith) ∙ f.tagged) (ap (holds 4 1 max_principals) e ∙ f.sized)
      (omega (arith, e, room, exact 4 1 max_principals (word16 s 6) f.sized))

  field_3 : None (field (lean_sheet s) (type_field (lean_sheet s)) 3 (holds 10 2 max_types))
  field_3 =
      field_none (lean_sheet s) (type_field (lean_sheet s)) 3 (holds 10 2 max_types) (type_tag s w)
      (ap (holds 10 2 max_types) (type_size s w) ∙ holds_ten (new_types s) (new_types_least s w) (omega (arith, new_types_most s w, w.types_most)))
      (omega (arith, type_size s w, same_type_field s w, room))

  field_4 : None (field (lean_sheet s) (term_field (lean_sheet s)) 4 (holds 8 1 max_terms))
  field_4 =
      field_none (lean_sheet s) (term_field (lean_sheet s)) 4 (holds 8 1 max_terms) (term_tag s w)
      (ap (holds 8 1 max_terms) (term_size s w)
      ∙ holds_eight (new_terms s) (omega (arith, new_terms_are s w)) (omega (arith, new_terms_most s w, w.terms_most)))
      (omega (arith, term_size s w, term_field_is s w, room))

  ends_well : None (guard_conditions (lean_sheet s) ++ unless 2 (eqb (sheet_end (lean_sheet s)) (length (lean_sheet s))) ∷ [])
  ends_well =
      let g = without_guards (lean_sheet s) lean_version in
      append_none (subst None (sym g.no_field) none_end)
      (none_next (none_unless 2 (eq-eqb (sheet_end (lean_sheet s)) (length (lean_sheet s))
      (g.terms_last ∙ ap (term_at (lean_sheet s)) (terms_are s w) ∙ sym (lean_length s w)))) none_end)

  lean_fields : None (field_conditions (lean_sheet s))
  lean_fields =
      append_none field_1
      (none_next (none_unless 3 (ap (λ (v : ℕ). eqb v 1 || eqb v 2) lean_version)) (append_none field_2 (append_none field_3 (append_none field_4 ends_well))))

  lean_tables : None (table_conditions (lean_sheet s))
  lean_tables =
      let y = types_are s w in
      let n = terms_are s w in
      none_next (lowest_all (type_ok (lean_sheet s)) 0 (types (lean_sheet s)) (λ x l. new_type_ok s w x (omega arith)))
      (none_next (lowest_all (term_ok (lean_sheet s)) 0 (terms (lean_sheet s)) (λ x l. new_term_ok s w x (omega arith)))
      (none_next (lowest_all (placed_ok (lean_sheet s)) 0 (terms (lean_sheet s)) (λ x l. new_placed_ok s w x (omega arith)))
      (none_next (lowest_all (nested_in (lean_sheet s) max_nesting) 0 (terms (lean_sheet s)) (λ x l. new_nested s w x (omega arith)))
      (none_next (without_guards (lean_sheet s) lean_version).no_fault none_end))))

  pub lean_readable : Readable (lean_sheet s)
  unfolding decoding
  lean_readable = none_clear (append_none lean_fields lean_tables)
