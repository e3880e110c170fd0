-- The bytes of the new records, from the records that are read and the tables of new numbers. Assumes nothing.
use mathlib.Core.Bool.{true}
use mathlib.Core.List.{List, [], ◌∷◌, ◌++◌}
use mathlib.Core.Path.{◌≡◌, refl, sym, ap, ◌∙◌}
use Prim.Native.Nat.{ℕ, ◌<◌, ◌≤◌}
use native.Mathlib.Decide.{ℕ_discrete}
use native.Mathlib.Omega.{arith}
use lib.ListN.{get_or}
use Rattle.program.specs.Layout.{types, term_at}
use Rattle.program.specs.Formats.{Part, unused, function_type, child, is_child, kind_of, format}
use Rattle.program.specs.Decoding.{part_ok}
use Rattle.program.specs.Records.{type_record, term_at_byte, term_record}
use Rattle.program.proofs.Laws.Trees.{parts, below}
use Rattle.program.specs.declared.records.Counts.{Counts}
use Rattle.program.specs.declared.records.TypeRecord.{TypeRecord}
use Rattle.program.specs.declared.records.TermRecord.{TermRecord}
use Rattle.erasure.specs.Lean.{new_type, new_term, bytes16, type_bytes, new_part, term_bytes}
use Rattle.erasure.proofs.Laws.Types.{fun_in}
use Rattle.leanwriting.specs.Internal.{NumberedType, NumberedTerm}
use Rattle.renumbering.proofs.TypeLaws.{PartsNumbered, parts_below, type_read}
use Rattle.renumbering.proofs.TermLaws.{term_read}

-- ---- a type's record
module _ {s y : List ℕ} {c : Counts} {t : ℕ} (N : NumberedType s c y t) {x : TypeRecord} (e : x ≡ type_record s c t) where
  pub parts_in : PartsNumbered x (types s)
  parts_in = parts_below N.ready.sheet N.inside (omega (arith, N.inside)) (omega (arith, N.inside)) e

  pub type_bytes_are : {r : List ℕ} → r ≡ x.kind ∷ 0 ∷ bytes16 (get_or y x.arg 0) ++ bytes16 (get_or y x.res 0) ++ bytes16 0 ++ bytes16 0
      → r ≡ type_bytes s t
  type_bytes_are q =
      q
      ∙ (λ i. x.kind ∷ 0 ∷ bytes16 (N.ready.table.each x.arg parts_in.arg_below i)
      ++ bytes16 (N.ready.table.each x.res parts_in.res_below i) ++ 0 ∷ 0 ∷ 0 ∷ 0 ∷ [])
      ∙ ap (λ (r : TypeRecord). r.kind ∷ 0 ∷ bytes16 (new_type s r.arg) ++ bytes16 (new_type s r.res) ++ 0 ∷ 0 ∷ 0 ∷ 0 ∷ [])
      (type_read N.ready.sheet N.inside e)

-- ---- what a kind's parts are
pub record Uses (kind : ℕ) (p q r : Part) : Type 0 where
  pub first_is : (format (kind_of kind)).first ≡ p
  pub second_is : (format (kind_of kind)).second ≡ q
  pub third_is : (format (kind_of kind)).third ≡ r

pub uses_at : (n : ℕ) {k : ℕ} → k ≡ n → Uses k (format (kind_of n)).first (format (kind_of n)).second (format (kind_of n)).third
uses_at n e = record {
  first_is = ap (λ (z : ℕ). (format (kind_of z)).first) e;
  second_is = ap (λ (z : ℕ). (format (kind_of z)).second) e;
  third_is = ap (λ (z : ℕ). (format (kind_of z)).third) e;
}

pub uses_one : {k : ℕ} → 7 ≤ k → k < 10 → Uses k child unused unused
uses_one {k} l h = elim (ℕ_discrete k 7) [
  | yes e ↦ uses_at 7 e
  | no e ↦ elim (ℕ_discrete k 8) [ yes f ↦ uses_at 8 f | no f ↦ uses_at 9 (omega arith) ]
]

pub uses_two : {k : ℕ} → 10 ≤ k → k < 14 → Uses k child child unused
uses_two {k} l h = elim (ℕ_discrete k 10) [
  | yes e ↦ uses_at 10 e
  | no e ↦ elim (ℕ_discrete k 11) [
    | yes f ↦ uses_at 11 f
    | no f ↦ elim (ℕ_discrete k 12) [ yes g ↦ uses_at 12 g | no g ↦ uses_at 13 (omega arith) ]
  ]
]

-- ---- a term's record
-- what a record of term t has in a readable sheet
record Right (s : List ℕ) (t : ℕ) (x : TermRecord) : Type 0 where
  kind_ok : x.kind ≤ 14
  first_ok : part_ok s t (format (kind_of x.kind)).first x.first ≡ true
  first_lower : is_child (format (kind_of x.kind)).first ≡ true → x.first < t
  second_lower : is_child (format (kind_of x.kind)).second ≡ true → x.second < t
  third_lower : is_child (format (kind_of x.kind)).third ≡ true → x.third < t

module _ {s y m : List ℕ} {c : Counts} {t : ℕ} (N : NumberedTerm s c y m t) {x : TermRecord} (e : x ≡ term_record s c t) where
  is : x ≡ term_at_byte s (term_at s t)
  is = term_read N.ready.types_ready.sheet N.inside e

  right : Right s t x
  right =
      let w = N.ready.types_ready.sheet.well_formed in
      let p = parts s w t N.inside in
      let b = below s w t N.inside in
      rw is (record {
        kind_ok = p.kind_ok;
        first_ok = p.first_ok;
        first_lower = b.first_below;
        second_lower = b.second_below;
        third_lower = b.third_below;
      })

  pub kind_high : x.kind ≤ 14
  kind_high = right.kind_ok

  module _ {p q r : Part} (u : Uses x.kind p q r) where
    pub first_in : is_child p ≡ true → x.first < t
    first_in h = right.first_lower (ap is_child u.first_is ∙ h)

    pub second_in : is_child q ≡ true → x.second < t
    second_in h = right.second_lower (ap is_child u.second_is ∙ h)

    pub third_in : is_child r ≡ true → x.third < t
    third_in h = right.third_lower (ap is_child u.third_is ∙ h)

    pub bytes_are : {a b d : ℕ} → a ≡ new_part s p x.first → b ≡ new_part s q x.second → d ≡ new_part s r x.third
        → {z : List ℕ} → z ≡ x.kind ∷ x.small ∷ bytes16 a ++ bytes16 b ++ bytes16 d → z ≡ term_bytes s t
    bytes_are ea eb ed ez =
        ez ∙ (λ i. x.kind ∷ x.small ∷ bytes16 (ea i) ++ bytes16 (eb i) ++ bytes16 (ed i))
        ∙ (λ i. x.kind ∷ x.small ∷ bytes16 (new_part s (sym u.first_is i) x.first) ++ bytes16 (new_part s (sym u.second_is i) x.second)
        ++ bytes16 (new_part s (sym u.third_is i) x.third))
        ∙ ap (λ (r : TermRecord). r.kind ∷ r.small ∷ bytes16 (new_part s (format (kind_of r.kind)).first r.first)
        ++ bytes16 (new_part s (format (kind_of r.kind)).second r.second) ++ bytes16 (new_part s (format (kind_of r.kind)).third r.third)) is

  -- the type of a function
  pub type_in : {q r : Part} → Uses x.kind function_type q r → x.first < types s
  type_in u =
      fun_in s N.ready.types_ready.sheet.well_formed x.first
      (ap (λ (p : Part). part_ok s t p x.first) (sym u.first_is) ∙ right.first_ok)

  -- the entries of the tables
  pub type_entry : (v : ℕ) → v < types s → get_or y v 0 ≡ new_type s v
  type_entry v h = N.ready.types_ready.table.each v h

  pub term_entry : (v : ℕ) → v < t → get_or m v 0 ≡ new_term s v
  term_entry v h = N.ready.table.each v (omega (arith, N.inside))

  -- kinds without a child
  pub plain_bytes : x.kind < 3 → {z : List ℕ} → z ≡ x.kind ∷ x.small ∷ bytes16 x.first ++ bytes16 x.second ++ bytes16 x.third → z ≡ term_bytes s t
  plain_bytes h q = elim (ℕ_discrete x.kind 0) [
    | yes k ↦ bytes_are (uses_at 0 k) refl refl refl q
    | no k ↦ elim (ℕ_discrete x.kind 1) [
      | yes f ↦ bytes_are (uses_at 1 f) refl refl refl q
      | no f ↦ bytes_are (uses_at 2 (omega arith)) refl refl refl q
    ]
  ]
