-- The type table: what each way out of the code has found of a record.
use mathlib.Core.Bool.{Bool, true, false, not, cond, ◌&&◌, false≢true}
use mathlib.Core.List.{List}
use mathlib.Core.Path.{◌≡◌, refl, sym, ap, ◌∙◌, subst}
use Rattle.std.proofs.Common.{Option}
use Prim.Native.Nat.{ℕ, zero, suc, ◌+◌, ◌*◌, ◌-◌, ◌<◌, ◌≤◌, max}
use native.Mathlib.Decide.{ℕ_discrete}
use native.Mathlib.Omega.{arith}
use lib.Dec.{leb, ltb, eqb}
use lib.ListN.{get_or, length, set}
use lib.Seq.{get_or-set_same, get_or-set_other}
use borrow.Author.Tests.{ltb-true, leb-true, leb-false, lt-ltb, le-ltb, le-leb, lt-leb}
use Rattle.std.specs.Bool.{MatchBool, then_some}
use Rattle.std.specs.List.{range_with_len, AllWithin, HoldsAt}
use Rattle.privileges.specs.Booleans.{and_left, and_right}
use Rattle.program.specs.Limits.{max_types, max_type_depth}
use Rattle.program.specs.Tests.{also, or_else}
use Rattle.program.specs.Bytes.{Bytes}
use Rattle.program.specs.Layout.{types, type_at, types_of}
use Rattle.program.specs.Decoding.{base_ok, function_ok, shallow, same_bytes, fresh, type_ok}
use Rattle.program.specs.Records.{type_at_byte, type_record}
use Rattle.accessors.specs.Internal.{Laid}
use Rattle.program.specs.Search.{Passed}
use Rattle.typerecords.specs.Internal.{le_word, TableAt, Depths, Deep, DepthIs}
use Rattle.program.proofs.Laws.Readable.{FieldsOk, fields_ok}
use Rattle.program.proofs.Laws.Records.{type_laid}
use Rattle.typerecords.proofs.RangeLaws.{each_number, some_number}
use Rattle.typerecords.proofs.WordLaws.{words_differ, words_same}
use Rattle.program.specs.declared.records.Counts.{Counts}
use Rattle.program.specs.declared.records.TypeRecord.{TypeRecord}

-- ---- no equal record before
-- none of the types from j to n - 1 has the record of t, so that the first j decide as the first n
pub record FreshFrom (s : List ℕ) (t n j : ℕ) : Type 0 where
  pub below : j ≤ n
  pub rest_is : fresh s t n ≡ fresh s t j

-- what a comparison finds of a record before that of t: it is another by one of its two words, or the same by both
module _ (s : List ℕ) (at eight two : ℕ) where
  abbrev pub OtherRecord : (k : ℕ) → Type 0
  OtherRecord k = le_word s (at + 10 * k + 2) 8 ≡ eight → le_word s (at + 10 * k) 2 ≡ two → ⊥

  abbrev pub EqualRecord : (k : ℕ) → Type 0
  EqualRecord k = (le_word s (at + 10 * k + 2) 8 ≡ eight) × (le_word s (at + 10 * k) 2 ≡ two)

module _ (s : List ℕ) (b : Bytes s) (at t : ℕ) (T : TableAt s at t) {eight two : ℕ} (e : eight ≡ le_word s (at + 10 * t + 2) 8)
    (f : two ≡ le_word s (at + 10 * t) 2) where
  step_of : (k : ℕ) {x : Bool} → same_bytes s (at + 10 * k) (at + 10 * t) 10 ≡ x → fresh s t (suc k) ≡ (not x && fresh s t k)
  step_of k g =
      (λ i. not (same_bytes s (sym (T.begins k) i) (sym (T.begins t) i) 10) && fresh s t k) ∙ ap (λ (x : Bool). not x && fresh s t k) g

  pub all_other : (n : ℕ) → ((k : ℕ) → k < n → OtherRecord s at eight two k) → fresh s t n ≡ true
  all_other zero h = refl
  all_other (suc n) h =
      step_of n (words_differ s b _ _ (λ p q. h n (omega arith) (p ∙ sym e) (q ∙ sym f))) ∙ all_other n (λ k l. h k (omega arith))

  pub one_equal : (n k : ℕ) → k < n → EqualRecord s at eight two k → fresh s t n ≡ false
  one_equal zero k l h = absurd (omega arith)
  one_equal (suc n) k l h = elim (ℕ_discrete k n) [
    | yes d ↦ ap (λ (j : ℕ). fresh s t (suc j)) (sym d) ∙ step_of k (words_same s b _ _ (h.0 ∙ e) (h.1 ∙ f))
    | no d ↦ and_false (fresh s t n) _ (one_equal n k (omega arith) h)
  ]
    where
      and_false : (a b : Bool) → a ≡ false → (b && a) ≡ false
      and_false a true p = p
      and_false a false p = refl

  -- `all` of the numbers below n
  pub compared : (n : ℕ) (r : Bool) → MatchBool r (AllWithin (OtherRecord s at eight two) (range_with_len 0 n) 0 (length (range_with_len 0 n)))
      ((k : ℕ) × (k < length (range_with_len 0 n)) × HoldsAt (EqualRecord s at eight two) (range_with_len 0 n) k)
      → r ≡ fresh s t n
  compared n true h = sym (all_other n (each_number n (OtherRecord s at eight two) h))
  compared n false h = let k = some_number n (EqualRecord s at eight two) h in sym (one_equal n k.0 k.1 k.2)

-- a group of m records, none of which has the eight bytes
module _ (s : List ℕ) (b : Bytes s) (at t : ℕ) (T : TableAt s at t) where
  past : (n m : ℕ) → ((k : ℕ) → k < m → le_word s (at + 10 * n + 2 + 10 * k) 8 ≡ le_word s (at + 10 * t + 2) 8 → ⊥) → fresh s t (n + m) ≡ fresh s t n
  past n zero f = let e : n + 0 ≡ n = omega arith in ap (fresh s t) e
  past n (suc m) f =
      let e : n + suc m ≡ suc (n + m) = omega arith in
      let p : at + 10 * n + 2 + 10 * m ≡ at + 10 * (n + m) + 2 = omega arith in
      ap (fresh s t) e ∙ (λ i. not (same_bytes s (sym (T.begins (n + m)) i) (sym (T.begins t) i) 10) && fresh s t (n + m))
      ∙ ap (λ (x : Bool). not x && fresh s t (n + m)) (words_differ s b (at + 10 * (n + m)) (at + 10 * t)
      (λ d q. f m (omega arith) (ap (λ (x : ℕ). le_word s x 8) p ∙ d)))
      ∙ past n m (λ k h. f k (omega arith))

  pub fresh_group : (j m : ℕ) {eight : ℕ} → eight ≡ le_word s (at + 10 * t + 2) 8 → m ≤ j
      → ((k : ℕ) → k < m → le_word s (at + 10 * (j - m) + 2 + 10 * k) 8 ≡ eight → ⊥) → fresh s t j ≡ fresh s t (j - m)
  fresh_group j m e h f =
      let p : j ≡ j - m + m = omega arith in
      ap (fresh s t) p ∙ past (j - m) m (λ k l d. f k l (d ∙ sym e))

-- ---- depth
shallow_base : (s : List ℕ) (t k : ℕ) → t < 2 → shallow s k t ≡ true
shallow_base s t zero h = lt-ltb t 2 h
shallow_base s t (suc k) h = λ i. or_else (lt-ltb t 2 h i) (λ _. also (shallow s k ((types_of s).arg t)) (λ _. shallow s k ((types_of s).res t)))

-- one more than the deeper of two
both : (a b m k : ℕ) (x y : Bool) → m ≡ max a b → x ≡ leb a k → y ≡ leb b k → also x (λ _. y) ≡ leb (m + 1) (suc k)
both a b m k true true e p q = let f = leb-true a k (sym p) in let g = leb-true b k (sym q) in sym (le-leb (m + 1) (suc k) (omega arith))
both a b m k true false e p q = let g = leb-false b k (sym q) in sym (lt-leb (m + 1) (suc k) (omega arith))
both a b m k false y e p q = let f = leb-false a k (sym p) in sym (lt-leb (m + 1) (suc k) (omega arith))

deeper : (s : List ℕ) (t a b m : ℕ) → 2 ≤ t → ((k : ℕ) → shallow s k ((types_of s).arg t) ≡ leb a k) → ((k : ℕ) → shallow s k ((types_of s).res t) ≡ leb b k)
    → m ≡ max a b → (k : ℕ) → shallow s k t ≡ leb (m + 1) k
deeper s t a b m h p q e zero = le-ltb t 2 h ∙ sym (lt-leb (m + 1) 0 (omega arith))
deeper s t a b m h p q e (suc k) =
    (λ i. or_else (le-ltb t 2 h i) (λ _. also (shallow s k ((types_of s).arg t)) (λ _. shallow s k ((types_of s).res t)))) ∙ both a b m k _ _ e (p k) (q k)

-- ---- where the table lies
module _ (s : List ℕ) (c : Counts) (L : Laid s c) (t : ℕ) (l : t < types s) where
  fields : FieldsOk s
  fields = fields_ok s L.none_found

  pub table_at : TableAt s (11 + 4 * c.principals) t
  table_at = record {
    begins = λ u. omega (arith, L.counts_are.principals_are);
    near = omega (arith, L.counts_are.principals_are, fields.principals_high);
    inside = omega (arith, L.counts_are.principals_are, fields.terms_in);
  }

  -- ---- a type's record
  module _ {r : TypeRecord} (e : r ≡ type_record s c t) where
    read : r ≡ type_at_byte s (type_at s t)
    read = e ∙ type_laid s fields.terms_in c L.counts_are t l

    module _ (low : t < 2) {b : Bool} (g : b ≡ (eqb r.kind t && eqb r.zero 0 && eqb r.arg 0 && eqb r.res 0 && eqb r.latent 0)) where
      base_is : type_ok s t ≡ b
      base_is =
          (λ i. cond (lt-ltb t 2 low i) (base_ok s t) (function_ok s t && shallow s max_type_depth t && fresh s t t))
          ∙ sym (g ∙ ap (λ (x : TypeRecord). eqb x.kind t && eqb x.zero 0 && eqb x.arg 0 && eqb x.res 0 && eqb x.latent 0) read)

      -- the depth that is answered
      pub base_depth : {o : Option ℕ} → o ≡ then_some b 0 → DepthIs s t o
      base_depth {o} h = subst (DepthIs s t) (sym h) (depth b refl)
        where
          depth : (a : Bool) → b ≡ a → DepthIs s t (then_some a 0)
          depth true f = record { right = base_is ∙ f; deep = λ k. shallow_base s t k low ∙ sym (le-leb 0 k (omega arith)) }
          depth false f = base_is ∙ f

    module _ (two : 2 ≤ t) {form : Bool} (g : form ≡ (eqb r.kind 2 && eqb r.zero 0 && ltb r.arg t && ltb r.res t)) where
      form_is : form ≡ function_ok s t
      form_is = g ∙ ap (λ (x : TypeRecord). eqb x.kind 2 && eqb x.zero 0 && ltb x.arg t && ltb x.res t) read

      function_is : type_ok s t ≡ (form && shallow s max_type_depth t && fresh s t t)
      function_is =
          (λ i. cond (le-ltb t 2 two i) (base_ok s t) (function_ok s t && shallow s max_type_depth t && fresh s t t))
          ∙ ap (λ (x : Bool). x && shallow s max_type_depth t && fresh s t t) (sym form_is)

      pub form_bad : form ≡ false → type_ok s t ≡ false
      form_bad f = function_is ∙ ap (λ (x : Bool). x && shallow s max_type_depth t && fresh s t t) f

      module _ {new : Bool} (en : new ≡ fresh s t t) where
        pub seen_bad : new ≡ false → type_ok s t ≡ false
        seen_bad f = function_is ∙ last_false (form && shallow s max_type_depth t) (fresh s t t) (sym en ∙ f)
          where
            last_false : (a b : Bool) → b ≡ false → (a && b) ≡ false
            last_false true b h = h
            last_false false b h = refl

        module _ (fg : form ≡ true) (ng : new ≡ true) where
          whole : function_ok s t ≡ true
          whole = sym form_is ∙ fg

          pub arg_lower : r.arg < t
          arg_lower =
              let f : function_ok s t ≡ true = whole in
              let h : ltb ((types_of s).arg t) t ≡ true = search (and_left, and_right) in
              omega (arith, ltb-true ((types_of s).arg t) t h, ap (λ (x : TypeRecord). x.arg) read)

          pub res_lower : r.res < t
          res_lower =
              let f : function_ok s t ≡ true = whole in
              let h : ltb ((types_of s).res t) t ≡ true = search (and_left, and_right) in
              omega (arith, ltb-true ((types_of s).res t) t h, ap (λ (x : TypeRecord). x.res) read)

          module _ (d : List ℕ) (m : ℕ) (w : Depths s d t) (mx : m ≡ max (get_or d r.arg 0) (get_or d r.res 0)) where
            deep_is : (k : ℕ) → shallow s k t ≡ leb (m + 1) k
            deep_is =
                deeper s t (get_or d r.arg 0) (get_or d r.res 0) m two
                (λ k. ap (shallow s k) (sym (ap (λ (x : TypeRecord). x.arg) read)) ∙ w.each r.arg arg_lower k)
                (λ k. ap (shallow s k) (sym (ap (λ (x : TypeRecord). x.res) read)) ∙ w.each r.res res_lower k) mx

            type_is : type_ok s t ≡ leb (m + 1) max_type_depth
            type_is = function_is ∙ middle form (shallow s max_type_depth t) (fresh s t t) fg (sym en ∙ ng) ∙ deep_is max_type_depth
              where
                middle : (x y z : Bool) → x ≡ true → z ≡ true → (x && y && z) ≡ y
                middle true true true p q = refl
                middle true false true p q = refl
                middle true y false p q = absurd (false≢true q)
                middle false y z p q = absurd (false≢true p)

            pub depth_over : max_type_depth ≤ m → type_ok s t ≡ false
            depth_over h = type_is ∙ lt-leb (m + 1) max_type_depth (omega arith)

            pub depth_is : m < max_type_depth → Deep s t (m + 1)
            depth_is h = record { right = type_is ∙ le-leb (m + 1) max_type_depth (omega arith); deep = deep_is }

-- ---- the list of depths
-- the types below t are right, and the list has their depths
pub record TypesPassed (s d : List ℕ) (n t : ℕ) : Type 0 where
  pub passed : Passed (type_ok s) (types s) n t
  pub room : length d ≡ max_types
  pub depths : Depths s d t

pub depths_none : (s d : List ℕ) → Depths s d 0
depths_none s d = record { each = λ u h k. absurd (omega arith) }

module _ (s d : List ℕ) (t m : ℕ) (w : Depths s d t) (room : t < length d) (v : Deep s t m) where
  here : get_or (set d t m) t 0 ≡ m
  here = get_or-set_same d t m 0 room

  pub depths_more : Depths s (set d t m) (t + 1)
  depths_more = record { each = each' }
    where
      each' : (u : ℕ) → u < t + 1 → (k : ℕ) → shallow s k u ≡ leb (get_or (set d t m) u 0) k
      each' u h k = elim (ℕ_discrete u t) [
        | yes e ↦ ap (shallow s k) e ∙ v.deep k ∙ ap (λ (x : ℕ). leb x k) (sym here) ∙ ap (λ (x : ℕ). leb (get_or (set d t m) x 0) k) (sym e)
        | no n ↦ w.each u (omega arith) k ∙ ap (λ (x : ℕ). leb x k) (sym (get_or-set_other d t u m 0 n))
      ]
