-- The fields of a sheet: which condition each way out of the code has found.
use mathlib.Core.Bool.{Bool, true, false, cond, ◌||◌}
use mathlib.Core.List.{List, [], ◌++◌}
use mathlib.Core.Path.{◌≡◌, refl, sym, ap, ◌∙◌, subst}
use Prim.Native.Nat.{ℕ, ◌+◌, ◌*◌, ◌/◌, ◌<◌, ◌≤◌}
use native.Mathlib.Omega.{arith}
use lib.Dec.{leb, eqb}
use lib.ListN.{length}
use borrow.Author.Tests.{lt-leb, le-leb, eq-eqb, ne_eqb, leb-true, eqb-true}
use Rattle.privileges.specs.Booleans.{and_left, and_right}
use Rattle.program.specs.Limits.{max_channels, max_principals, max_types, max_terms}
use Rattle.program.specs.Bytes.{byte, word16}
use Rattle.program.specs.Layout.{version, has_guards, type_field, types, term_field, terms, guard_field, channels}
use Rattle.program.specs.Screening.{Condition, First, first_here, first_later, None, none_end, none_next, unless}
use Rattle.program.specs.Decoding.{holds, field, field_conditions}
use Rattle.program.proofs.Laws.Screening.{first_left, first_right, append_none, none_unless, found_unless}
use Rattle.accessors.specs.Internal.{Laid}
use Rattle.headers.specs.Internal.{FieldHolds, version_conditions, VersionHolds, end_at, end_conditions, AfterTerms, EndIs}
use Rattle.program.specs.declared.answer.Refusal.{Refusal}
use Rattle.std.specs.Prelude.{Result, Ok, Err}

-- ---- one field
module _ (s : List ℕ) (at tag size least most : ℕ) where
  pub field_short : length s < at + 3 → First 1 0 (field s at tag (holds size least most))
  field_short h = first_here refl (found_unless 1 (lt-leb (at + 3) (length s) h))

  module _ (h : at + 3 ≤ length s) where
    headed : (unless 1 (leb (at + 3) (length s))).found tt ≡ mathlib.Core.Option.none
    headed = none_unless 1 (le-leb (at + 3) (length s) h)

    pub field_tag : (byte s at ≡ tag → ⊥) → First 2 0 (field s at tag (holds size least most))
    field_tag n = first_later headed (first_here refl (found_unless 2 (ne_eqb (byte s at) tag n)))

    module _ (e : byte s at ≡ tag) {len : ℕ} {b : Bool} (l : len ≡ word16 s (at + 1)) (g : b ≡ holds size least most len) where
      tagged : (unless 2 (eqb (byte s at) tag)).found tt ≡ mathlib.Core.Option.none
      tagged = none_unless 2 (eq-eqb (byte s at) tag e)

      sized : holds size least most (word16 s (at + 1)) ≡ b
      sized = ap (holds size least most) (sym l) ∙ sym g

      pub field_length : b ≡ false → First 4 0 (field s at tag (holds size least most))
      field_length f = first_later headed (first_later tagged (first_here refl (found_unless 4 (sized ∙ f))))

      module _ (f : b ≡ true) where
        pub field_cut : length s < at + 3 + len → First 1 0 (field s at tag (holds size least most))
        field_cut c = first_later headed (first_later tagged
            (first_later (none_unless 4 (sized ∙ f)) (first_here refl (found_unless 1 (lt-leb (at + 3 + word16 s (at + 1)) (length s) (omega arith))))))

        pub field_whole : at + 3 + len ≤ length s → FieldHolds s at tag size least most (len / size)
        field_whole c =
            let h = sym g ∙ f in
            record {
              count = ap (λ (x : ℕ). x / size) l;
              least_are = leb-true least (len / size) (search (and_left, and_right));
              most_are = leb-true (len / size) most (search (and_left, and_right));
              inside = omega (arith, c, eqb-true (len / size * size) len (search (and_left, and_right)));
              none_found = none_next headed (none_next tagged
                  (none_next (none_unless 4 (sized ∙ f)) (none_next (none_unless 1 (le-leb (at + 3 + word16 s (at + 1)) (length s) (omega arith))) none_end)));
            }

-- ---- the first field and its version
abbrev known : (version : ℕ) → Bool
known v = eqb v 1 || eqb v 2

abbrev channels_for : (version : ℕ) → ℕ
channels_for v = cond (eqb v 2) max_channels 1

pub first_fault : (s : List ℕ) {c p : ℕ} → First c p (field s 0 1 (holds 2 1 1)) → First c p (version_conditions s)
first_fault s f = first_left _ f

module _ (s : List ℕ) (n₁ : None (field s 0 1 (holds 2 1 1))) {v : ℕ} (ev : v ≡ version s) where
  pub version_known : (n : ℕ) → v ≡ n → known n ≡ true → VersionHolds s (channels_for n)
  version_known n e k =
      let is : n ≡ version s = sym e ∙ ev in
      record { channels_are = ap channels_for is; none_found = append_none n₁ (none_next (none_unless 3 (ap known (sym is) ∙ k)) none_end) }

  pub version_unknown : (v ≡ 1 → ⊥) → (v ≡ 2 → ⊥) → First 3 0 (version_conditions s)
  version_unknown a b =
      first_right n₁ (first_here refl (found_unless 3
      (λ i. ne_eqb (version s) 1 (λ z. a (ev ∙ z)) i || ne_eqb (version s) 2 (λ z. b (ev ∙ z)) i)))

-- ---- what follows the terms
module _ (s : List ℕ) (at : ℕ) where
  pub not_end : (at ≡ length s → ⊥) → First 2 0 (end_at s at)
  not_end h = first_here refl (found_unless 2 (ne_eqb at (length s) h))

  pub is_end : at ≡ length s → None (end_at s at)
  is_end h = none_next (none_unless 2 (eq-eqb at (length s) h)) none_end

-- an end's answer, after conditions that are not found
end_after : {cs : List Condition} (ds : List Condition) (r : Result (Unit {0}) Refusal) → None cs → EndIs ds r → EndIs (cs ++ ds) r
end_after ds (Ok u) n h = append_none n h
end_after ds (Err f) n h = first_right n h

-- the number of channels tells whether there are guards
one_channel : (b : Bool) → cond b max_channels 1 ≡ 1 → b ≡ false
one_channel true e = absurd (omega arith)
one_channel false e = refl

more_channels : (b : Bool) → (cond b max_channels 1 ≡ 1 → ⊥) → b ≡ true
more_channels true h = refl
more_channels false h = absurd (h refl)

abbrev end_for : List ℕ → (guards : Bool) → (at : ℕ) → List Condition
end_for s b at = cond b (field s at 5 (holds max_channels 1 1)) [] ++ end_at s (cond b (at + 3 + max_channels) at)

module _ (s : List ℕ) {at n : ℕ} (place : at ≡ guard_field s) (k : n ≡ channels s) where
  pub plain_end : n ≡ 1 → (r : Result (Unit {0}) Refusal) → EndIs (end_at s at) r → EndIs (end_conditions s) r
  plain_end e r h =
      let none : has_guards s ≡ false = one_channel (has_guards s) (sym k ∙ e) in
      subst (λ (cs : List Condition). EndIs cs r) (λ i. end_for s (sym none i) (place i)) h

  module _ (more : n ≡ 1 → ⊥) where
    guarded : has_guards s ≡ true
    guarded = more_channels (has_guards s) (λ e. more (k ∙ e))

    pub fault_5 : {c p : ℕ} → First c p (field s at 5 (holds max_channels 1 1)) → First c p (end_conditions s)
    fault_5 {c} {p} f = subst (First c p) (λ i. end_for s (sym guarded i) (place i)) (first_left (end_at s (at + 3 + max_channels)) f)

    pub guards_end : None (field s at 5 (holds max_channels 1 1)) → (r : Result (Unit {0}) Refusal) → EndIs (end_at s (at + 3 + max_channels)) r
        → EndIs (end_conditions s) r
    guards_end n₅ r h =
        subst (λ (cs : List Condition). EndIs cs r) (λ i. end_for s (sym guarded i) (place i)) (end_after (end_at s (at + 3 + max_channels)) r n₅ h)

-- ---- the fields, one after the other
pub version_fault : (s : List ℕ) {c p : ℕ} → First c p (version_conditions s) → First c p (field_conditions s)
version_fault s f = first_left _ f

module _ (s : List ℕ) {k : ℕ} (h₁ : VersionHolds s k) where
  pub fault_2 : {c p : ℕ} → First c p (field s 5 2 (holds 4 1 max_principals)) → First c p (field_conditions s)
  fault_2 f = first_right h₁.none_found (first_left _ f)

  module _ {p : ℕ} (h₂ : FieldHolds s 5 2 4 1 max_principals p) where
    types_place : 8 + 4 * p ≡ type_field s
    types_place = omega (arith, h₂.count)

    pub fault_3 : {c q : ℕ} → First c q (field s (8 + 4 * p) 3 (holds 10 2 max_types)) → First c q (field_conditions s)
    fault_3 {c} {q} f =
        first_right h₁.none_found (first_right h₂.none_found
        (first_left _ (subst (λ (x : ℕ). First c q (field s x 3 (holds 10 2 max_types))) types_place f)))

    module _ {y : ℕ} (h₃ : FieldHolds s (8 + 4 * p) 3 10 2 max_types y) where
      types_are : y ≡ types s
      types_are = h₃.count ∙ ap (λ (x : ℕ). word16 s (x + 1) / 10) types_place

      terms_place : 8 + 4 * p + 3 + 10 * y ≡ term_field s
      terms_place = omega (arith, types_place, types_are)

      none_3 : None (field s (type_field s) 3 (holds 10 2 max_types))
      none_3 = subst (λ (x : ℕ). None (field s x 3 (holds 10 2 max_types))) types_place h₃.none_found

      pub fault_4 : {c q : ℕ} → First c q (field s (8 + 4 * p + 3 + 10 * y) 4 (holds 8 1 max_terms)) → First c q (field_conditions s)
      fault_4 {c} {q} f =
          first_right h₁.none_found (first_right h₂.none_found (first_right none_3
          (first_left _ (subst (λ (x : ℕ). First c q (field s x 4 (holds 8 1 max_terms))) terms_place f))))

      module _ {n : ℕ} (h₄ : FieldHolds s (8 + 4 * p + 3 + 10 * y) 4 8 1 max_terms n) where
        terms_are : n ≡ terms s
        terms_are = h₄.count ∙ ap (λ (x : ℕ). word16 s (x + 1) / 8) terms_place

        none_4 : None (field s (term_field s) 4 (holds 8 1 max_terms))
        none_4 = subst (λ (x : ℕ). None (field s x 4 (holds 8 1 max_terms))) terms_place h₄.none_found

        pub after_terms : AfterTerms s (8 + 4 * p + 3 + 10 * y + 3 + 8 * n) k
        after_terms = record {
          near = omega (arith, h₂.most_are, h₃.most_are, h₄.most_are);
          place = omega (arith, terms_place, terms_are);
          channels_are = h₁.channels_are;
        }

        pub fault_end : {c q : ℕ} → First c q (end_conditions s) → First c q (field_conditions s)
        fault_end f = first_right h₁.none_found (first_right h₂.none_found (first_right none_3 (first_right none_4 f)))

        pub laid : None (end_conditions s) → Laid s (record { principals = p; types = y; terms = n; channels = k })
        laid none-5 = record {
          counts_are = record { principals_are = h₂.count; types_are = types_are; terms_are = terms_are; channels_are = h₁.channels_are };
          none_found = append_none h₁.none_found (append_none h₂.none_found (append_none none_3 (append_none none_4 none-5)));
        }
