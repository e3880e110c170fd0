-- Types whose records become equal, found by the new numbers of their parts, and the new numbers themselves. Assumes nothing.
use mathlib.Core.Bool.{Bool, true, false, not, ◌&&◌}
use mathlib.Core.List.{List}
use mathlib.Core.Option.{none, some}
use mathlib.Core.Path.{◌≡◌, refl, sym, ap, ◌∙◌}
use Prim.Native.Nat.{ℕ, ◌-◌, ◌<◌, ◌≤◌}
use native.Mathlib.Omega.{arith}
use lib.Dec.{eqb}
use lib.ListN.{get_or}
use borrow.Author.Tests.{eqb-true, eqb-false, eq-eqb, ne_eqb}
use Rattle.privileges.specs.Booleans.{bool_ext}
use Rattle.program.specs.Layout.{types, type_at}
use Rattle.program.specs.Records.{type_at_byte, type_record}
use Rattle.program.specs.Screening.{lowest}
use Rattle.program.proofs.Laws.Readable.{WellFormed}
use Rattle.program.proofs.Laws.Records.{type_laid}
use Rattle.program.specs.declared.records.Counts.{Counts}
use Rattle.program.specs.declared.records.TypeRecord.{TypeRecord}
use Rattle.accessors.specs.Internal.{FormedSheet}
use Rattle.erasure.specs.Kept.{kept_below}
use Rattle.erasure.specs.Lean.{alike, or_self, representatives, representative, kept_type, new_type}
use Rattle.erasure.proofs.Laws.Kept.{kept_strict}
use Rattle.erasure.proofs.Laws.Types.{lower, head_is, heads_head, head_of, head_kept, number_kept, number_merged, number_head}
use Rattle.renumbering.specs.Internal.{Tabulated, MergingType, MergingPair, TypesReady}

head_number : (s : List ℕ) (a b : ℕ) → representative s a ≡ representative s b → new_type s a ≡ new_type s b
unfolding new_type
head_number s a b e = ap (kept_below (kept_type s)) e

-- the record that is read, of a type of the sheet
pub type_read : {s : List ℕ} {c : Counts} → FormedSheet s c → {t : ℕ} → t < types s → {x : TypeRecord} → x ≡ type_record s c t
    → x ≡ type_at_byte s (type_at s t)
type_read {s} {c} S {t} l e = e ∙ type_laid s S.well_formed.terms_inside c S.counts t l

-- its parts are lower than every type from t on, but for type 0
pub record PartsNumbered (x : TypeRecord) (t : ℕ) : Type 0 where
  pub arg_below : x.arg < t
  pub res_below : x.res < t

pub parts_below : {s : List ℕ} {c : Counts} → FormedSheet s c → {u t : ℕ} → u < types s → u ≤ t → 1 ≤ t → {x : TypeRecord} → x ≡ type_record s c u
    → PartsNumbered x t
parts_below {s} S {u} {t} l h g e =
    let low = lower s S.well_formed u t l h g in
    rw (type_read S l e) (record { arg_below = low.arg; res_below = low.res })

-- ---- two types of which the second is lower
module _ {s l : List ℕ} {c : Counts} {t u : ℕ} (P : MergingPair s c l t u) where
  formed : WellFormed s
  formed = P.merging.sheet.well_formed

  -- the same number, the same representative
  same_number : (a b : ℕ) → a < t → b < t → eqb (get_or l a 0) (get_or l b 0) ≡ eqb (get_or (representatives s t) a 0) (get_or (representatives s t) b 0)
  same_number a b p q =
      let i = P.merging.inside in
      (λ k. eqb (P.merging.numbers.each a p k) (P.merging.numbers.each b q k))
      ∙ bool_ext (eqb (new_type s a) (new_type s b)) (eqb (representative s a) (representative s b))
      (λ e. eq-eqb (representative s a) (representative s b) (number_head s formed a b (omega arith) (omega arith) (eqb-true (new_type s a) (new_type s b) e)))
      (λ e. eq-eqb (new_type s a) (new_type s b) (head_number s a b (eqb-true (representative s a) (representative s b) e)))
      ∙ (λ k. eqb (sym (heads_head s formed t a i p) k) (sym (heads_head s formed t b i q) k))

  module _ {x y : TypeRecord} (ex : x ≡ type_record s c t) (ey : y ≡ type_record s c u) where
    pub upper_parts : PartsNumbered x t
    upper_parts = parts_below P.merging.sheet P.merging.inside (omega arith) (omega (arith, P.below)) ex

    pub lower_parts : PartsNumbered y t
    lower_parts = parts_below P.merging.sheet (omega (arith, P.below, P.merging.inside)) (omega (arith, P.below)) (omega (arith, P.below)) ey

    pub alike_is : (eqb y.kind x.kind && eqb (get_or l y.arg 0) (get_or l x.arg 0) && eqb (get_or l y.res 0) (get_or l x.res 0))
        ≡ alike s (representatives s t) t u
    alike_is =
        let xs = type_read P.merging.sheet P.merging.inside ex in
        let ys = type_read P.merging.sheet (omega (arith, P.below, P.merging.inside)) ey in
        (λ i. eqb y.kind x.kind && same_number y.arg x.arg lower_parts.arg_below upper_parts.arg_below i
        && same_number y.res x.res lower_parts.res_below upper_parts.res_below i)
        ∙ λ i. eqb (ys i).kind (xs i).kind && eqb (get_or (representatives s t) (ys i).arg 0) (get_or (representatives s t) (xs i).arg 0)
        && eqb (get_or (representatives s t) (ys i).res 0) (get_or (representatives s t) (xs i).res 0)

-- ---- the search for the first
abbrev pub differs : List ℕ → (t u : ℕ) → Bool
differs s t u = not (alike s (representatives s t) t u)

-- no type below u is alike, so that from u on the search finds what the whole search finds
pub record NoneAlikeBelow (s : List ℕ) (t u : ℕ) : Type 0 where
  pub below : u ≤ t
  pub rest_is : lowest (differs s t) 0 t ≡ lowest (differs s t) u (t - u)

pub merging : {s l : List ℕ} {c : Counts} {t n : ℕ} → FormedSheet s c → Tabulated (new_type s) l t → t < n → n ≡ types s → MergingType s c l t
merging S T h e = record { sheet = S; numbers = T; inside = omega arith }

module _ {s l : List ℕ} {c : Counts} {t : ℕ} (M : MergingType s c l t) where
  pub found_head : {u : ℕ} → some u ≡ lowest (differs s t) 0 t → u ≡ representative s t
  found_head e = ap (or_self t) e ∙ sym (head_is s M.sheet.well_formed t M.inside)

  pub own_head : none ≡ lowest (differs s t) 0 t → t ≡ representative s t
  own_head e = ap (or_self t) e ∙ sym (head_is s M.sheet.well_formed t M.inside)

  -- ---- a type by its representative
  module _ {h : ℕ} (e : h ≡ representative s t) where
    pub head_first : h ≡ t → kept_type s t ≡ true
    unfolding kept_type
    head_first q = eq-eqb (representative s t) t (sym e ∙ q)

    pub first_number : h ≡ t → {count : ℕ} → count ≡ kept_below (kept_type s) t → count ≡ new_type s t
    first_number q k = k ∙ sym (number_kept s M.sheet.well_formed t (head_first q))

    pub head_other : (h ≡ t → ⊥) → kept_type s t ≡ false
    unfolding kept_type
    head_other q = ne_eqb (representative s t) t (λ r. q (e ∙ r))

    pub head_below : (h ≡ t → ⊥) → h < t
    head_below q = omega (arith, (head_of s M.sheet.well_formed t M.inside).low)

    pub merged_number : (h ≡ t → ⊥) → get_or l h 0 ≡ new_type s t
    merged_number q = M.numbers.each h (head_below q) ∙ ap (new_type s) e ∙ sym (number_merged s M.sheet.well_formed t M.inside)

-- ---- a type by its new number
module _ {s y : List ℕ} {c : Counts} (R : TypesReady s c y) {t : ℕ} (l : t < types s) {count : ℕ} (k : count ≡ kept_below (kept_type s) t) where
  w : WellFormed s
  w = R.sheet.well_formed

  number_first : new_type s t ≡ kept_below (kept_type s) t → kept_type s t ≡ true
  unfolding new_type kept_type
  number_first e = go (eqb (representative s t) t) refl
    where
      go : (b : Bool) → eqb (representative s t) t ≡ b → b ≡ true
      go true q = refl
      go false q =
          let other : (representative s t ≡ t → ⊥) = eqb-false (representative s t) t q in
          absurd (omega (arith, kept_strict (kept_type s) (representative s t) t (head_kept s w t l) (omega (arith, other, (head_of s w t l).low))))

  -- it is kept if its number is the count of those below it that are
  pub entry_first : get_or y t 0 ≡ count → kept_type s t ≡ true
  entry_first e = number_first (sym (R.table.each t l) ∙ e ∙ k)

  pub entry_other : (get_or y t 0 ≡ count → ⊥) → kept_type s t ≡ false
  entry_other h = go (kept_type s t) refl
    where
      go : (b : Bool) → kept_type s t ≡ b → b ≡ false
      go true q = absurd (h (R.table.each t l ∙ number_kept s w t q ∙ sym k))
      go false q = refl
