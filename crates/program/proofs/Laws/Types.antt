-- The types of a readable sheet: functions are of lower types, at most 12 deep, and no two have the same parts.
use Rattle.std.specs.Prelude.{true, false, not, cond, ◌&&◌, List, ◌≡◌, refl, ℕ, zero, suc, ◌+◌, ◌<◌, ◌≤◌, leb, ltb, eqb}
use Rattle.std.proofs.Common.{true≢false, sym, ap, ◌∙◌, arith, ltb-true, leb-true, eqb-true, eq-eqb, le-ltb}
use Rattle.std.proofs.Math.Decide.{dec_lt}
use Rattle.std.proofs.lemmas.Bool.{not-true}
use Rattle.program.specs.Limits.{max_type_depth}
use Rattle.privileges.specs.Booleans.{and_left, and_right, and_both}
use Rattle.program.specs.Bytes.{byte, word16, word32, Bytes}
use Rattle.program.specs.Layout.{types, type_at, Types, types_of}
use Rattle.program.specs.Decoding.{base_ok, function_ok, shallow, same_bytes, fresh}
use Rattle.program.proofs.Laws.Readable.{WellFormed}

pub record PartsLower (T : Types) : Type 0 where
  pub arg_lower : (t : ℕ) → T.is_fun t ≡ true → T.arg t < t
  pub res_lower : (t : ℕ) → T.is_fun t ≡ true → T.res t < t

-- ---- what the record of a function type has
pub record FunctionType (s : List ℕ) (t : ℕ) : Type 0 where
  pub low : 2 ≤ t
  pub inside : t < types s
  pub kind_is : byte s (type_at s t) ≡ 2
  pub zero_is : byte s (type_at s t + 1) ≡ 0
  pub arg_below : (types_of s).arg t < t
  pub res_below : (types_of s).res t < t
  pub depth : shallow s max_type_depth t ≡ true
  pub differs : fresh s t t ≡ true

pub function_type : (s : List ℕ) → WellFormed s → (t : ℕ) → (types_of s).is_fun t ≡ true → FunctionType s t
function_type s w t h =
    let l : 2 ≤ t = leb-true 2 t (and_left (leb 2 t) (ltb t (types s)) h) in
    let i : t < types s = ltb-true t (types s) (and_right (leb 2 t) (ltb t (types s)) h) in
    let ok : (function_ok s t && shallow s max_type_depth t && fresh s t t) ≡ true =
    (λ i. cond (sym (le-ltb t 2 l) i) (base_ok s t) (function_ok s t && shallow s max_type_depth t && fresh s t t)) ∙ w.type_ok_holds t i in
    record {
      low = l;
      inside = i;
      kind_is = eqb-true (byte s (type_at s t)) 2 (search (and_left, and_right));
      zero_is = eqb-true (byte s (type_at s t + 1)) 0 (search (and_left, and_right));
      arg_below = ltb-true ((types_of s).arg t) t (search (and_left, and_right));
      res_below = ltb-true ((types_of s).res t) t (search (and_left, and_right));
      depth = search (and_left, and_right);
      differs = search (and_left, and_right);
    }

pub lower_types : (s : List ℕ) → WellFormed s → PartsLower (types_of s)
lower_types s w = record { arg_lower = λ t h. (function_type s w t h).arg_below; res_lower = λ t h. (function_type s w t h).res_below }

-- ---- a number in bytes has one way to be written
pub word16_bytes : (s : List ℕ) → Bytes s → (i j : ℕ) → word16 s i ≡ word16 s j → (byte s i ≡ byte s j) × (byte s (i + 1) ≡ byte s (j + 1))
word16_bytes s b i j e = (omega (arith, b.below (i + 1), b.below (j + 1)), omega (arith, b.below (i + 1), b.below (j + 1)))

pub word32_halves : (s : List ℕ) → Bytes s → (i j : ℕ) → word32 s i ≡ word32 s j → (word16 s i ≡ word16 s j) × (word16 s (i + 2) ≡ word16 s (j + 2))
word32_halves s b i j e =
    let f : (k : ℕ) → word16 s k < 65536 = λ k. omega (arith, b.below k, b.below (k + 1)) in
    (omega (arith, f (i + 2), f (j + 2)), omega (arith, f (i + 2), f (j + 2)))

-- ---- no two function types have the same parts
differs_below : (s : List ℕ) (t n u : ℕ) → fresh s t n ≡ true → u < n → same_bytes s (type_at s u) (type_at s t) 10 ≡ false
differs_below s t zero u h l = absurd (omega arith)
differs_below s t (suc n) u h l = go (dec_lt u n)
    (differs_below s t n u (and_right (not (same_bytes s (type_at s n) (type_at s t) 10)) (fresh s t n) h))
  where
    go : Dec (u < n) → (u < n → same_bytes s (type_at s u) (type_at s t) 10 ≡ false) → same_bytes s (type_at s u) (type_at s t) 10 ≡ false
    go (yes k) rest = rest k
    go (no k) rest =
        let e : u ≡ n = omega arith in
        ap (λ (x : ℕ). same_bytes s (type_at s x) (type_at s t) 10) e
        ∙ not-true (same_bytes s (type_at s n) (type_at s t) 10) (and_left (not (same_bytes s (type_at s n) (type_at s t) 10)) (fresh s t n) h)

module _ (s : List ℕ) (b : Bytes s) (t u : ℕ) where
  -- byte by byte, from the last: two records with the same kind and parts are same_bytes
  same_same_bytes : FunctionType s t → FunctionType s u → (types_of s).arg t ≡ (types_of s).arg u → (types_of s).res t ≡ (types_of s).res u
      → (types_of s).latent t ≡ (types_of s).latent u → same_bytes s (type_at s t) (type_at s u) 10 ≡ true
  same_same_bytes f g ea er el =
      let i : ℕ = type_at s t in
      let j : ℕ = type_at s u in
      let a = word16_bytes s b (i + 2) (j + 2) ea in
      let r = word16_bytes s b (i + 4) (j + 4) er in
      let h = word32_halves s b (i + 6) (j + 6) el in
      let l = word16_bytes s b (i + 6) (j + 6) h.0 in
      let m = word16_bytes s b (i + 6 + 2) (j + 6 + 2) h.1 in
      and_both (at 9 (i + 6 + 2 + 1) (j + 6 + 2 + 1) (omega arith) (omega arith) m.1)
      (and_both (at 8 (i + 6 + 2) (j + 6 + 2) (omega arith) (omega arith) m.0)
      (and_both (at 7 (i + 6 + 1) (j + 6 + 1) (omega arith) (omega arith) l.1)
      (and_both (at 6 (i + 6) (j + 6) (omega arith) (omega arith) l.0)
      (and_both (at 5 (i + 4 + 1) (j + 4 + 1) (omega arith) (omega arith) r.1)
      (and_both (at 4 (i + 4) (j + 4) (omega arith) (omega arith) r.0)
      (and_both (at 3 (i + 2 + 1) (j + 2 + 1) (omega arith) (omega arith) a.1)
      (and_both (at 2 (i + 2) (j + 2) (omega arith) (omega arith) a.0)
      (and_both (at 1 (i + 1) (j + 1) (omega arith) (omega arith) (f.zero_is ∙ sym g.zero_is))
      (and_both (at 0 i j (omega arith) (omega arith) (f.kind_is ∙ sym g.kind_is)) refl)))))))))
    where
      at : (n x y : ℕ) → x ≡ type_at s t + n → y ≡ type_at s u + n → byte s x ≡ byte s y
          → eqb (byte s (type_at s t + n)) (byte s (type_at s u + n)) ≡ true
      at n x y p q e = eq-eqb (byte s (type_at s t + n)) (byte s (type_at s u + n)) (ap (byte s) (sym p) ∙ e ∙ ap (byte s) q)

  later_differs : WellFormed s → (types_of s).is_fun t ≡ true → (types_of s).is_fun u ≡ true → (types_of s).arg t ≡ (types_of s).arg u → (types_of s).res t
      ≡ (types_of s).res u
      → (types_of s).latent t ≡ (types_of s).latent u → t < u → ⊥
  later_differs w ht hu ea er el l =
      let f = function_type s w t ht in
      let g = function_type s w u hu in
      true≢false (sym (same_same_bytes f g ea er el) ∙ differs_below s u u t g.differs l)

-- "No two records are equal": function types with the same argument, result and latent set have the same number
pub distinct_types : (s : List ℕ) → Bytes s → WellFormed s → (t u : ℕ) → (types_of s).is_fun t ≡ true → (types_of s).is_fun u ≡ true
    → (types_of s).arg t ≡ (types_of s).arg u → (types_of s).res t ≡ (types_of s).res u → (types_of s).latent t ≡ (types_of s).latent u → t ≡ u
distinct_types s b w t u ht hu ea er el =
    let x : (t < u → ⊥) = later_differs s b t u w ht hu ea er el in
    let y : (u < t → ⊥) = later_differs s b u t w hu ht (sym ea) (sym er) (sym el) in
    omega (arith, x, y)
