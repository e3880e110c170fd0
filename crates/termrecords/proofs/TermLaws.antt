-- The term records: what each arm of the match has found.
use mathlib.Core.Bool.{Bool, true, false, not, ◌&&◌, and-true}
use mathlib.Core.List.{List}
use mathlib.Core.Path.{◌≡◌, refl, sym, ap, ◌∙◌}
use Prim.Native.Nat.{ℕ, ◌<◌, ◌≤◌}
use native.Mathlib.Decide.{ℕ_discrete}
use native.Mathlib.Omega.{arith}
use lib.Dec.{leb, ltb, eqb}
use borrow.Author.Tests.{lt-leb}
use Rattle.std.specs.Prelude.{Option, None, is_none}
use Rattle.std.specs.Bool.{then_some}
use Rattle.program.specs.Limits.{max_privilege}
use Rattle.program.specs.Layout.{terms, kind_byte, small, first, second, third}
use Rattle.program.specs.Formats.{Part, unused, flag, any_number, privilege, principal, channel, function_type, child, body_child, kind_of, format}
use Rattle.program.specs.Decoding.{part_ok, format_at, term_ok}
use Rattle.program.specs.Records.{CountsOf, term_record}
use Rattle.accessors.specs.Internal.{Laid}
use Rattle.termrecords.specs.Internal.{part_in, record_ok, kind_shape, shape_from, shape_of, shape_at}
use Rattle.program.proofs.Laws.Readable.{fields_ok}
use Rattle.program.proofs.Laws.Records.{term_laid}
use Rattle.program.specs.declared.records.Counts.{Counts}
use Rattle.program.specs.declared.records.TermRecord.{TermRecord}
use Rattle.termrecords.specs.declared.Shape.{Shape}
use Rattle.termrecords.specs.declared.Shape.TheVariants.{Leaf, One, Two}

-- ---- the arms of the match on the kind
module _ (c : Counts) (t : ℕ) (r : TermRecord) where
  -- an arm of one number
  pub at_kind : (n : ℕ) → r.kind ≡ n → {x : Option Shape} → x ≡ shape_from c t n r.small r.first r.second r.third → x ≡ shape_of c t r
  unfolding shape_of
  at_kind n e h = h ∙ ap (λ (k : ℕ). shape_from c t k r.small r.first r.second r.third) (sym e)

  -- numbers and variables: any number in the first part
  plain : (x b d : Bool) → then_some (x && b && d) Leaf ≡ then_some (x && true && b && d) Leaf
  plain x b d = ap (λ (z : Bool). then_some (z && b && d) Leaf) (sym (and-true x))

  pub kinds_1_2 : {x : Option Shape} → 1 ≤ r.kind → r.kind < 3 → x ≡ then_some (eqb r.small 0 && eqb r.second 0 && eqb r.third 0) Leaf → x ≡ shape_of c t r
  kinds_1_2 l h e = elim (ℕ_discrete r.kind 1) [
    | yes k ↦ at_kind 1 k (e ∙ plain (eqb r.small 0) (eqb r.second 0) (eqb r.third 0))
    | no k ↦ at_kind 2 (omega arith) (e ∙ plain (eqb r.small 0) (eqb r.second 0) (eqb r.third 0))
  ]

  pub kinds_7_8 : {x : Option Shape} → 7 ≤ r.kind → r.kind < 9
      → x ≡ then_some (leb r.small max_privilege && ltb r.first t && eqb r.second 0 && eqb r.third 0) (One r.first) → x ≡ shape_of c t r
  kinds_7_8 l h e = elim (ℕ_discrete r.kind 7) [ yes k ↦ at_kind 7 k e | no k ↦ at_kind 8 (omega arith) e ]

  pub kinds_11_13 : {x : Option Shape} → 11 ≤ r.kind → r.kind < 14
      → x ≡ then_some (eqb r.small 0 && ltb r.first t && ltb r.second t && eqb r.third 0) (Two r.first r.second) → x ≡ shape_of c t r
  kinds_11_13 l h e = elim (ℕ_discrete r.kind 11) [
    | yes k ↦ at_kind 11 k e
    | no k ↦ elim (ℕ_discrete r.kind 12) [ yes m ↦ at_kind 12 m e | no m ↦ at_kind 13 (omega arith) e ]
  ]

  pub kinds_above : 15 ≤ r.kind → None ≡ shape_of c t r
  unfolding shape_of
  kinds_above l = sym (ap (λ (b : Bool). then_some (b && rest.0 && rest.1 && rest.2 && rest.3)
      (kind_shape (kind_of r.kind) r.first r.second r.third)) (lt-leb r.kind 14 l))
    where
      rest : Bool × Bool × Bool × Bool
      rest = (
        part_in c t (format (kind_of r.kind)).small r.small,
        part_in c t (format (kind_of r.kind)).first r.first,
        part_in c t (format (kind_of r.kind)).second r.second,
        part_in c t (format (kind_of r.kind)).third r.third,
      )

-- ---- the shape of a term
module _ (s : List ℕ) (c : Counts) (k : CountsOf s c) (t : ℕ) where
  part_in_lem : (p : Part) (x : ℕ) → part_in c t p x ≡ part_ok s t p x
  part_in_lem unused x = refl
  part_in_lem flag x = refl
  part_in_lem any_number x = refl
  part_in_lem privilege x = refl
  part_in_lem principal x = ap (ltb x) k.principals_are
  part_in_lem channel x = ap (ltb x) k.channels_are
  part_in_lem function_type x = ap (λ (y : ℕ). leb 2 x && ltb x y) k.types_are
  part_in_lem child x = refl
  part_in_lem body_child x = refl

  record_ok_lem : record_ok c t (kind_byte s t) (small s t) (first s t) (second s t) (third s t) ≡ term_ok s t
  record_ok_lem = λ i.
      leb (kind_byte s t) 14 && part_in_lem (format_at s t).small (small s t) i && part_in_lem (format_at s t).first (first s t) i
      && part_in_lem (format_at s t).second (second s t) i && part_in_lem (format_at s t).third (third s t) i

pub shape_is : (s : List ℕ) (c : Counts) (t : ℕ) → Laid s c → t < terms s → {r : TermRecord} {x : Option Shape} → r ≡ term_record s c t → x ≡ shape_of c t r
    → x ≡ shape_at s t
unfolding shape_of shape_at
shape_is s c t L h e g =
    g ∙ ap (shape_of c t) (e ∙ term_laid s (fields_ok s L.none_found).terms_in c L.counts_are t h)
    ∙ ap (λ (b : Bool). then_some b (kind_shape (kind_of (kind_byte s t)) (first s t) (second s t) (third s t))) (record_ok_lem s c L.counts_are t)

-- ---- a record of no shape is a wrong record
pub wrong_is : (s : List ℕ) (t : ℕ) {x : Option Shape} {b : Bool} → x ≡ shape_at s t → b ≡ is_none x → b ≡ not (term_ok s t)
unfolding shape_at
wrong_is s t e g = g ∙ ap is_none e ∙ by (term_ok s t) _
  where
    by : (b : Bool) (y : Shape) → is_none (then_some b y) ≡ not b
    by true y = refl
    by false y = refl
