-- The types of a lean sheet: each type of a readable sheet is merged into the first whose record becomes equal, and the new records are those of 01's rules.
use Rattle.std.specs.Prelude.{Bool, false, not, cond, ◌&&◌, ◌↔◌, ◌≡◌, refl, ℕ, zero, suc, ◌+◌, ◌*◌, ◌<◌, ◌≤◌, leb, ltb, length, get_or}
use Rattle.std.proofs.Math.Bool.{true}
use Rattle.std.proofs.Common.{true≢false, ◌∙◌, length-append}
use mathlib.Core.List.{List, [], ◌∷◌, ◌++◌}
use Rattle.std.proofs.Math.Option.{Option, none, some}
use Rattle.std.proofs.Math.Path.{sym, ap, subst}
use Rattle.std.proofs.Math.Decide.{dec_lt}
use native.Mathlib.Omega.{arith}
use Rattle.std.proofs.Math.Dec.{eqb}
use Rattle.std.proofs.Math.ListN.{get_or-append}
use Rattle.std.proofs.lemmas.List.{get_or_at}
use borrow.Author.Tests.{ltb-true, leb-true, eqb-true, eq-eqb, lt-ltb, le-leb, le-ltb, not-true, not-false}
use Rattle.privileges.specs.Booleans.{and_left, and_right, and_both}
use Rattle.program.specs.Tests.{also, or_else}
use Rattle.program.specs.Bytes.{byte, word16}
use Rattle.program.specs.Layout.{types, type_at, types_of}
use Rattle.program.specs.Screening.{lowest}
use Rattle.program.specs.Decoding.{base_ok, function_ok, shallow, same_bytes, fresh, type_ok}
use Rattle.program.specs.Limits.{max_type_depth}
use Rattle.program.proofs.Laws.Screening.{lowest_none, lowest_some}
use Rattle.program.proofs.Laws.Readable.{WellFormed}
use Rattle.program.proofs.Laws.Types.{function_type}
use Rattle.erasure.specs.Kept.{kept_below}
use Rattle.erasure.specs.Lean.{alike, or_self, first_alike, representatives, representative, kept_type, new_types, new_type, bytes16, type_bytes, lean_sheet}
use Rattle.erasure.proofs.Laws.Kept.{kept_none, kept_yes, kept_mono, kept_strict, kept_one, kept_most, Old, old_of}
use Rattle.erasure.proofs.Laws.Bytes.{written16, types_are, type_kind, type_zero, type_arg, type_res, type_latent}
use Rattle.erasure.proofs.Laws.Typing.{Renames}

-- ---- tests whose second part is looked at only if the first leaves it open
or_first : (a b : Bool) → a ≡ true → or_else a (λ _. b) ≡ true
or_first a b e = λ i. or_else (e i) (λ _. b)

or_second : (a b : Bool) → b ≡ true → or_else a (λ _. b) ≡ true
or_second true b e = refl
or_second false b e = e

also_both : (a b : Bool) → a ≡ true → b ≡ true → also a (λ _. b) ≡ true
also_both a b e f = (λ i. also (e i) (λ _. b)) ∙ f

also_first : (a b : Bool) → also a (λ _. b) ≡ true → a ≡ true
also_first true b e = refl
also_first false b e = e

also_second : (a b : Bool) → also a (λ _. b) ≡ true → b ≡ true
also_second true b e = e
also_second false b e = absurd (true≢false (sym e))

-- records that agree in all their bytes
same_byte : (s : List ℕ) (i j n m : ℕ) → same_bytes s i j n ≡ true → m < n → byte s (i + m) ≡ byte s (j + m)
same_byte s i j zero m h l = absurd (omega arith)
same_byte s i j (suc n) m h l = go (dec_lt m n) (same_byte s i j n m (and_right (eqb (byte s (i + n)) (byte s (j + n))) (same_bytes s i j n) h))
  where
    go : Dec (m < n) → (m < n → byte s (i + m) ≡ byte s (j + m)) → byte s (i + m) ≡ byte s (j + m)
    go (yes k) rest = rest k
    go (no k) rest =
        let e : n ≡ m = omega arith in
        subst (λ (x : ℕ). byte s (i + x) ≡ byte s (j + x)) e
        (eqb-true (byte s (i + n)) (byte s (j + n)) (and_left (eqb (byte s (i + n)) (byte s (j + n))) (same_bytes s i j n) h))

same_word : (s : List ℕ) (i j m : ℕ) → same_bytes s i j 10 ≡ true → m < 9 → word16 s (i + m) ≡ word16 s (j + m)
same_word s i j m h l =
    let e : (x : ℕ) → x + (m + 1) ≡ x + m + 1 = λ x. omega arith in
    λ k. same_byte s i j 10 m h (omega arith) k * 256
    + (ap (byte s) (sym (e i)) ∙ same_byte s i j 10 (m + 1) h (omega arith) ∙ ap (byte s) (e j)) k

-- ---- the table of representatives
pub heads_length : (s : List ℕ) (n : ℕ) → length (representatives s n) ≡ n
unfolding representatives
heads_length s zero = refl
heads_length s (suc n) = length-append (representatives s n) (first_alike s (representatives s n) n ∷ []) ∙ omega (arith, heads_length s n)

pub heads_at : (s : List ℕ) (n t : ℕ) → t < n → get_or (representatives s n) t 0 ≡ first_alike s (representatives s t) t
unfolding representatives
heads_at s zero t h = absurd (omega arith)
heads_at s (suc n) t h = go (dec_lt t n) (heads_at s n t)
  where
    go : Dec (t < n) → (t < n → get_or (representatives s n) t 0 ≡ first_alike s (representatives s t) t)
        → get_or (representatives s n ++ first_alike s (representatives s n) n ∷ []) t 0
        ≡ first_alike s (representatives s t) t
    go (yes l) rest = get_or-append (representatives s n) (first_alike s (representatives s n) n ∷ []) 0 t (omega (arith, heads_length s n)) ∙ rest l
    go (no l) rest =
        let e : n ≡ t = omega arith in
        get_or_at (representatives s n) (first_alike s (representatives s n) n) [] 0 t (heads_length s n ∙ e)
        ∙ ap (λ (x : ℕ). first_alike s (representatives s x) x) e

-- the records of two types become equal
pub record BecomeEqual (s : List ℕ) (t u : ℕ) : Type 0 where
  pub kinds : byte s (type_at s u) ≡ byte s (type_at s t)
  pub args : representative s ((types_of s).arg u) ≡ representative s ((types_of s).arg t)
  pub results : representative s ((types_of s).res u) ≡ representative s ((types_of s).res t)

same_refl : (s : List ℕ) (t : ℕ) → BecomeEqual s t t
same_refl s t = record { kinds = refl; args = refl; results = refl }

same_sym : {s : List ℕ} {t u : ℕ} → BecomeEqual s t u → BecomeEqual s u t
same_sym h = record { kinds = sym h.kinds; args = sym h.args; results = sym h.results }

same_trans : {s : List ℕ} {t u v : ℕ} → BecomeEqual s t u → BecomeEqual s u v → BecomeEqual s t v
same_trans h g = record { kinds = g.kinds ∙ h.kinds; args = g.args ∙ h.args; results = g.results ∙ h.results }

module _ (s : List ℕ) (w : WellFormed s) where
  -- ---- what the old records have
  is_function : (t : ℕ) → 2 ≤ t → t < types s → (types_of s).is_fun t ≡ true
  is_function t h l = and_both (le-leb 2 t h) (lt-ltb t (types s) l)

  record BaseType (t : ℕ) : Type 0 where
    kind : byte s (type_at s t) ≡ t
    zero_is : byte s (type_at s t + 1) ≡ 0
    arg : (types_of s).arg t ≡ 0
    res : (types_of s).res t ≡ 0

  base : (t : ℕ) → t < 2 → BaseType t
  base t h =
      let ok : base_ok s t ≡ true = (λ i. cond (sym (lt-ltb t 2 h) i) (base_ok s t) (function_ok s t && shallow s max_type_depth t && fresh s t t))
      ∙ w.type_ok_holds t (omega (arith, w.types_least)) in
      record {
        kind = eqb-true (byte s (type_at s t)) t (search (and_left, and_right));
        zero_is = eqb-true (byte s (type_at s t + 1)) 0 (search (and_left, and_right));
        arg = eqb-true ((types_of s).arg t) 0 (search (and_left, and_right));
        res = eqb-true ((types_of s).res t) 0 (search (and_left, and_right));
      }

  -- parts are lower than every type from their own on, but for type 0
  pub record PartsBelow (u t : ℕ) : Type 0 where
    pub arg : (types_of s).arg u < t
    pub res : (types_of s).res u < t

  pub lower : (u t : ℕ) → u < types s → u ≤ t → 1 ≤ t → PartsBelow u t
  lower u t l h g = go (dec_lt u 2)
    where
      go : Dec (u < 2) → PartsBelow u t
      go (yes b) = record { arg = omega (arith, (base u b).arg); res = omega (arith, (base u b).res) }
      go (no b) =
          let f = function_type s w u (is_function u (omega arith) l) in
          record { arg = omega (arith, f.arg_below); res = omega (arith, f.res_below) }

  -- ---- representatives: the first whose record becomes equal
  pub head_is : (t : ℕ) → t < types s → representative s t ≡ first_alike s (representatives s t) t
  unfolding representative
  head_is t l = heads_at s (types s) t l

  pub heads_head : (t x : ℕ) → t < types s → x < t → get_or (representatives s t) x 0 ≡ representative s x
  unfolding representative
  heads_head t x l h = heads_at s t x h ∙ sym (heads_at s (types s) x (omega arith))

  alike_same : (t u : ℕ) → t < types s → u < t → alike s (representatives s t) t u ≡ true → BecomeEqual s t u
  alike_same t u l h e =
      let a = lower u t (omega arith) (omega arith) (omega arith) in
      let b = lower t t l (omega arith) (omega arith) in
      record {
        kinds = eqb-true (byte s (type_at s u)) (byte s (type_at s t)) (search (e, and_left, and_right));
        args = sym (heads_head t ((types_of s).arg u) l a.arg)
            ∙ eqb-true (get_or (representatives s t) ((types_of s).arg u) 0) (get_or (representatives s t) ((types_of s).arg t) 0)
            (search (e, and_left, and_right))
            ∙ heads_head t ((types_of s).arg t) l b.arg;
        results = sym (heads_head t ((types_of s).res u) l a.res)
            ∙ eqb-true (get_or (representatives s t) ((types_of s).res u) 0) (get_or (representatives s t) ((types_of s).res t) 0)
            (search (e, and_left, and_right))
            ∙ heads_head t ((types_of s).res t) l b.res;
      }

  same_alike : (t u : ℕ) → t < types s → u < t → BecomeEqual s t u → alike s (representatives s t) t u ≡ true
  same_alike t u l h e =
      let a = lower u t (omega arith) (omega arith) (omega arith) in
      let b = lower t t l (omega arith) (omega arith) in
      and_both (and_both (eq-eqb _ _ e.kinds)
      (eq-eqb _ _ (heads_head t ((types_of s).arg u) l a.arg ∙ e.args ∙ sym (heads_head t ((types_of s).arg t) l b.arg))))
      (eq-eqb _ _ (heads_head t ((types_of s).res u) l a.res ∙ e.results ∙ sym (heads_head t ((types_of s).res t) l b.res)))

  pub record Head (t : ℕ) : Type 0 where
    pub low : representative s t ≤ t
    pub same : BecomeEqual s t (representative s t)
    pub least : (u : ℕ) → BecomeEqual s t u → representative s t ≤ u

  pub head_of : (t : ℕ) → t < types s → Head t
  head_of t l = go (lowest (λ u. not (alike s (representatives s t) t u)) 0 t) refl
    where
      is : (o : Option ℕ) → lowest (λ u. not (alike s (representatives s t) t u)) 0 t ≡ o → representative s t ≡ or_self t o
      is o e = head_is t l ∙ ap (or_self t) e

      -- none below x becomes equal
      none_below : (x : ℕ) → x ≤ t → ((u : ℕ) → u < x → not (alike s (representatives s t) t u) ≡ true) → (u : ℕ) → BecomeEqual s t u → x ≤ u
      none_below x g h u q = elim (dec_lt u x) [
        | yes m ↦ absurd (true≢false (sym (same_alike t u l (omega arith) q) ∙ not-true _ (h u m)))
        | no m ↦ omega arith
      ]

      at : (x : ℕ) → representative s t ≡ x → x ≤ t → BecomeEqual s t x → ((u : ℕ) → u < x → not (alike s (representatives s t) t u) ≡ true) → Head t
      at x e g q h = record {
        low = omega arith;
        same = subst (BecomeEqual s t) (sym e) q;
        least = λ u r. omega (arith, none_below x g h u r);
      }

      go : (o : Option ℕ) → lowest (λ u. not (alike s (representatives s t) t u)) 0 t ≡ o → Head t
      go none e = at t (is none e) (omega arith) (same_refl s t)
          (λ u h. lowest_none (λ u. not (alike s (representatives s t) t u)) 0 t e u (omega arith) (omega arith))
      go (some x) e =
          let r = lowest_some (λ u. not (alike s (representatives s t) t u)) 0 t x e in
          at x (is (some x) e) (omega (arith, r.inside))
          (alike_same t x l (omega (arith, r.inside)) (not-false _ r.fails)) (λ u h. r.least u (omega arith) h)

  -- types whose records become equal have the same representative, which is kept
  pub heads_same : (t u : ℕ) → t < types s → u < types s → BecomeEqual s t u → representative s t ≡ representative s u
  heads_same t u l m q =
      let a = head_of t l in
      let b = head_of u m in
      omega (arith, a.least (representative s u) (same_trans q b.same), b.least (representative s t) (same_trans (same_sym q) a.same))

  pub head_kept : (t : ℕ) → t < types s → kept_type s (representative s t) ≡ true
  unfolding kept_type
  head_kept t l =
      let a = head_of t l in
      eq-eqb (representative s (representative s t)) (representative s t) (heads_same (representative s t) t (omega (arith, a.low)) l (same_sym a.same))

  pub kept_head : (t : ℕ) → kept_type s t ≡ true → representative s t ≡ t
  unfolding kept_type
  kept_head t k = eqb-true (representative s t) t k

  -- ---- the new numbers
  -- a kind is that of the representative, so that functions are merged into functions
  kind_function : (t : ℕ) → 2 ≤ t → t < types s → byte s (type_at s t) ≡ 2
  kind_function t h l = (function_type s w t (is_function t h l)).kind_is

  head_low : (t : ℕ) → t < 2 → representative s t ≡ t
  head_low t h =
      let a = head_of t (omega (arith, w.types_least)) in
      let b = base (representative s t) (omega (arith, a.low)) in
      sym b.kind ∙ a.same.kinds ∙ (base t h).kind

  head_high : (t : ℕ) → 2 ≤ t → t < types s → 2 ≤ representative s t
  head_high t h l =
      let a = head_of t l in
      elim (dec_lt (representative s t) 2) [
        | yes m ↦ let b = base (representative s t) m in omega (arith, b.kind, a.same.kinds, kind_function t h l)
        | no m ↦ omega arith
      ]

  low_kept : (t : ℕ) → t < 2 → kept_type s t ≡ true
  unfolding kept_type
  low_kept t h = eq-eqb (representative s t) t (head_low t h)

  kept_low : (t : ℕ) → t ≤ 2 → kept_below (kept_type s) t ≡ t
  kept_low zero h = kept_none (kept_type s)
  kept_low (suc t) h = kept_yes (kept_type s) t (low_kept t (omega arith)) ∙ omega (arith, kept_low t (omega arith))

  pub base_number : (t : ℕ) → t < 2 → new_type s t ≡ t
  unfolding new_type
  base_number t h = ap (kept_below (kept_type s)) (head_low t h) ∙ kept_low t (omega arith)

  pub number_high : (t : ℕ) → 2 ≤ t → t < types s → 2 ≤ new_type s t
  unfolding new_type
  number_high t h l = omega (arith, kept_mono (kept_type s) 2 (representative s t) (head_high t h l), kept_low 2 (omega arith))

  pub number_in : (t : ℕ) → t < types s → new_type s t < new_types s
  unfolding new_type new_types
  number_in t l = kept_strict (kept_type s) (representative s t) (types s) (head_kept t l) (omega (arith, (head_of t l).low))

  pub number_kept : (t : ℕ) → kept_type s t ≡ true → new_type s t ≡ kept_below (kept_type s) t
  unfolding new_type
  number_kept t k = ap (kept_below (kept_type s)) (kept_head t k)

  -- one that is not has the number of its representative
  pub number_merged : (t : ℕ) → t < types s → new_type s t ≡ new_type s (representative s t)
  unfolding new_type
  number_merged t l = ap (kept_below (kept_type s)) (sym (kept_head (representative s t) (head_kept t l)))

  -- a type that is kept has a higher number than all below it
  pub number_below : (u t : ℕ) → u < t → t < types s → kept_type s t ≡ true → new_type s u < kept_below (kept_type s) t
  unfolding new_type
  number_below u t h l k =
      let m : u < types s = omega arith in
      kept_strict (kept_type s) (representative s u) t (head_kept u m) (omega (arith, (head_of u m).low))

  -- the same number, the same representative
  pub number_head : (t u : ℕ) → t < types s → u < types s → new_type s t ≡ new_type s u → representative s t ≡ representative s u
  unfolding new_type
  number_head t u l m e = kept_one (kept_type s) (representative s t) (representative s u) (head_kept t l) (head_kept u m) e

  -- ---- the renumbering, as the rules see it
  head_in : (t : ℕ) → t < types s → representative s t < types s
  head_in t l = omega (arith, (head_of t l).low)

  pub fun_low : (t : ℕ) → (types_of s).is_fun t ≡ true → 2 ≤ t
  fun_low t h = leb-true 2 t (and_left (leb 2 t) (ltb t (types s)) h)

  pub fun_in : (t : ℕ) → (types_of s).is_fun t ≡ true → t < types s
  fun_in t h = ltb-true t (types s) (and_right (leb 2 t) (ltb t (types s)) h)

  pub new_function : (t : ℕ) → 2 ≤ t → t < types s → (types_of (lean_sheet s)).is_fun (new_type s t) ≡ true
  new_function t h l =
      and_both (le-leb 2 (new_type s t) (number_high t h l))
      (lt-ltb (new_type s t) (types (lean_sheet s)) (omega (arith, number_in t l, types_are s w)))

  pub new_arg : (t : ℕ) → t < types s → (types_of (lean_sheet s)).arg (new_type s t) ≡ new_type s ((types_of s).arg t)
  unfolding new_type
  new_arg t l =
      type_arg s w (representative s t) (head_kept t l) (head_in t l) ∙ ap (kept_below (kept_type s)) (head_of t l).same.args

  pub new_res : (t : ℕ) → t < types s → (types_of (lean_sheet s)).res (new_type s t) ≡ new_type s ((types_of s).res t)
  unfolding new_type
  new_res t l =
      type_res s w (representative s t) (head_kept t l) (head_in t l) ∙ ap (kept_below (kept_type s)) (head_of t l).same.results

  pub new_latent : (t : ℕ) → t < types s → (types_of (lean_sheet s)).latent (new_type s t) ≡ 0
  unfolding new_type
  new_latent t l = type_latent s w (representative s t) (head_kept t l) (head_in t l)

  -- records that become equal are merged
  merge : (t u : ℕ) → t < types s → u < types s → byte s (type_at s t) ≡ byte s (type_at s u)
      → new_type s ((types_of s).arg t) ≡ new_type s ((types_of s).arg u)
      → new_type s ((types_of s).res t) ≡ new_type s ((types_of s).res u) → representative s t ≡ representative s u
  merge t u l m ek ea er =
      let a = lower t (types s) l (omega arith) (omega arith) in
      let b = lower u (types s) m (omega arith) (omega arith) in
      heads_same t u l m (record {
        kinds = sym ek;
        args = sym (number_head ((types_of s).arg t) ((types_of s).arg u) a.arg b.arg ea);
        results = sym (number_head ((types_of s).res t) ((types_of s).res u) a.res b.res er);
      })

  pub types_renamed : Renames (types_of s) (types_of (lean_sheet s)) (new_type s)
  unfolding new_type
  types_renamed = record {
    boolean_kept = base_number 0 (omega arith);
    number_kept = base_number 1 (omega arith);
    function_kept = λ t h. new_function t (fun_low t h) (fun_in t h);
    arg_is = λ t h. new_arg t (fun_in t h);
    res_is = λ t h. new_res t (fun_in t h);
    latent_empty = λ t h. new_latent t (fun_in t h);
    merged = λ t u h g ea er. ap (kept_below (kept_type s))
        (merge t u (fun_in t h) (fun_in u g) (kind_function t (fun_low t h) (fun_in t h) ∙ sym (kind_function u (fun_low u g) (fun_in u g))) ea er);
  }

  -- ---- 5: the new records are types
  -- nesting goes along
  pub new_shallow : (d t : ℕ) → t < types s → shallow s d t ≡ true → shallow (lean_sheet s) d (new_type s t) ≡ true
  new_shallow zero t l h = let b = ltb-true t 2 h in lt-ltb (new_type s t) 2 (omega (arith, base_number t b))
  new_shallow (suc d) t l h = go (dec_lt t 2) (new_shallow d ((types_of s).arg t)) (new_shallow d ((types_of s).res t))
    where
      a : Bool
      a = shallow s d ((types_of s).arg t)

      b : Bool
      b = shallow s d ((types_of s).res t)

      go : Dec (t < 2) → ((types_of s).arg t < types s → a ≡ true → shallow (lean_sheet s) d (new_type s ((types_of s).arg t)) ≡ true)
          → ((types_of s).res t < types s → b ≡ true → shallow (lean_sheet s) d (new_type s ((types_of s).res t)) ≡ true)
          → shallow (lean_sheet s) (suc d) (new_type s t) ≡ true
      go (yes low) onArg onRes = or_first (ltb (new_type s t) 2) _ (lt-ltb (new_type s t) 2 (omega (arith, base_number t low)))
      go (no high) onArg onRes =
          let below = lower t t l (omega arith) (omega arith) in
          let parts : also a (λ _. b) ≡ true = (λ i. or_else (sym (le-ltb t 2 (omega arith)) i) λ _. also a λ _. b) ∙ h in
          or_second (ltb (new_type s t) 2) _
          (also_both _ _ (ap (shallow (lean_sheet s) d) (new_arg t l) ∙ onArg (omega (arith, below.arg)) (also_first a b parts))
          (ap (shallow (lean_sheet s) d) (new_res t l) ∙ onRes (omega (arith, below.res)) (also_second a b parts)))

  -- two that are kept have different records
  new_distinct : (t u : ℕ) → kept_type s t ≡ true → t < types s → kept_type s u ≡ true → u < types s
      → same_bytes (lean_sheet s) (type_at (lean_sheet s) (kept_below (kept_type s) t))
      (type_at (lean_sheet s) (kept_below (kept_type s) u)) 10 ≡ true → t ≡ u
  new_distinct t u k l g m h =
      let i : ℕ = type_at (lean_sheet s) (kept_below (kept_type s) t) in
      let j : ℕ = type_at (lean_sheet s) (kept_below (kept_type s) u) in
      let at_zero : (x : ℕ) → x + 0 ≡ x = λ x. omega arith in
      let kinds : byte (lean_sheet s) i ≡ byte (lean_sheet s) j =
      ap (byte (lean_sheet s)) (sym (at_zero i)) ∙ same_byte (lean_sheet s) i j 10 0 h (omega arith) ∙ ap (byte (lean_sheet s)) (at_zero j) in
      sym (kept_head t k)
      ∙ merge t u l m (sym (type_kind s w t k l) ∙ kinds ∙ type_kind s w u g m)
      (sym (type_arg s w t k l) ∙ same_word (lean_sheet s) i j 2 h (omega arith) ∙ type_arg s w u g m)
      (sym (type_res s w t k l) ∙ same_word (lean_sheet s) i j 4 h (omega arith) ∙ type_res s w u g m)
      ∙ kept_head u g

  new_fresh : (t n : ℕ) → kept_type s t ≡ true → t < types s → n ≤ kept_below (kept_type s) t → fresh (lean_sheet s) (kept_below (kept_type s) t) n ≡ true
  new_fresh t zero k l h = refl
  new_fresh t (suc u) k l h = and_both (differs
      (same_bytes (lean_sheet s) (type_at (lean_sheet s) u) (type_at (lean_sheet s) (kept_below (kept_type s) t)) 10) refl)
      (new_fresh t u k l (omega arith))
    where
      o : Old (kept_type s) (types s) u
      o = old_of (kept_type s) (types s) u (omega (arith, kept_mono (kept_type s) t (types s) (omega arith)))

      differs : (b : Bool) → same_bytes (lean_sheet s) (type_at (lean_sheet s) u)
          (type_at (lean_sheet s) (kept_below (kept_type s) t)) 10 ≡ b → not b ≡ true
      differs false e = refl
      differs true e =
          let q : o.old ≡ t = new_distinct o.old t o.kept o.below k l
          (ap (λ (x : ℕ). same_bytes (lean_sheet s) (type_at (lean_sheet s) x) (type_at (lean_sheet s) (kept_below (kept_type s) t)) 10) o.number
          ∙ e) in
          absurd (omega (arith, ap (kept_below (kept_type s)) q, o.number))

  kept_type_ok : (t : ℕ) → kept_type s t ≡ true → t < types s → type_ok (lean_sheet s) (kept_below (kept_type s) t) ≡ true
  kept_type_ok t k l = go (dec_lt t 2)
    where
      go : Dec (t < 2) → type_ok (lean_sheet s) (kept_below (kept_type s) t) ≡ true
      go (yes h) =
          let b = base t h in
          let e : kept_below (kept_type s) t ≡ t = kept_low t (omega arith) in
          (λ i. cond (lt-ltb (kept_below (kept_type s) t) 2 (omega arith) i) (base_ok (lean_sheet s) (kept_below (kept_type s) t))
          (function_ok (lean_sheet s) (kept_below (kept_type s) t) && shallow (lean_sheet s) max_type_depth (kept_below (kept_type s) t)
          && fresh (lean_sheet s) (kept_below (kept_type s) t) (kept_below (kept_type s) t)))
          ∙ and_both (and_both (and_both (and_both (eq-eqb _ _ (type_kind s w t k l ∙ b.kind ∙ sym e)) (eq-eqb _ _ (type_zero s w t k l)))
          (eq-eqb _ _ (type_arg s w t k l ∙ ap (new_type s) b.arg ∙ base_number 0 (omega arith))))
          (eq-eqb _ _ (type_res s w t k l ∙ ap (new_type s) b.res ∙ base_number 0 (omega arith)))) (eq-eqb _ _ (type_latent s w t k l))
      go (no h) =
          let f = function_type s w t (is_function t (omega arith) l) in
          let e : new_type s t ≡ kept_below (kept_type s) t = number_kept t k in
          (λ i. cond (le-ltb (kept_below (kept_type s) t) 2 (omega (arith, number_high t (omega arith) l)) i)
          (base_ok (lean_sheet s) (kept_below (kept_type s) t))
          (function_ok (lean_sheet s) (kept_below (kept_type s) t) && shallow (lean_sheet s) max_type_depth (kept_below (kept_type s) t)
          && fresh (lean_sheet s) (kept_below (kept_type s) t) (kept_below (kept_type s) t)))
          ∙ and_both (and_both
          (and_both (and_both (and_both (eq-eqb _ _ (type_kind s w t k l ∙ f.kind_is)) (eq-eqb _ _ (type_zero s w t k l)))
          (lt-ltb ((types_of (lean_sheet s)).arg (kept_below (kept_type s) t)) (kept_below (kept_type s) t)
          (omega (arith, type_arg s w t k l, number_below ((types_of s).arg t) t f.arg_below l k))))
          (lt-ltb ((types_of (lean_sheet s)).res (kept_below (kept_type s) t)) (kept_below (kept_type s) t)
          (omega (arith, type_res s w t k l, number_below ((types_of s).res t) t f.res_below l k))))
          (ap (shallow (lean_sheet s) max_type_depth) (sym e) ∙ new_shallow max_type_depth t l f.depth))
          (new_fresh t (kept_below (kept_type s) t) k l (omega arith))

  pub new_type_ok : (n : ℕ) → n < new_types s → type_ok (lean_sheet s) n ≡ true
  unfolding new_types
  new_type_ok n h =
      let o = old_of (kept_type s) (types s) n h in
      subst (λ (x : ℕ). type_ok (lean_sheet s) x ≡ true) o.number (kept_type_ok o.old o.kept o.below)

  -- as many as before at most, and no less than two
  pub new_types_least : 2 ≤ new_types s
  unfolding new_types
  new_types_least = omega (arith, kept_mono (kept_type s) 2 (types s) w.types_least, kept_low 2 (omega arith))

  pub new_types_most : new_types s ≤ types s
  unfolding new_types
  new_types_most = kept_most (kept_type s) (types s)

  -- ---- records that become equal, byte by byte
  pub merged_exactly : (t u : ℕ) → t < types s → u < types s → (type_bytes s t ≡ type_bytes s u) ↔ (new_type s t ≡ new_type s u)
  unfolding new_type
  merged_exactly t u l m = (λ e. ap (kept_below (kept_type s)) (forth e), λ e. back (number_head t u l m e))
    where
      word : (i : ℕ) → type_bytes s t ≡ type_bytes s u → word16 (type_bytes s t) i ≡ word16 (type_bytes s u) i
      word i e = ap (λ (b : List ℕ). word16 b i) e

      forth : type_bytes s t ≡ type_bytes s u → representative s t ≡ representative s u
      forth e =
          merge t u l m (ap (λ (b : List ℕ). byte b 0) e)
          (sym (written16 (new_type s ((types_of s).arg t))) ∙ word 2 e ∙ written16 (new_type s ((types_of s).arg u)))
          (sym (written16 (new_type s ((types_of s).res t))) ∙ word 4 e ∙ written16 (new_type s ((types_of s).res u)))

      back : representative s t ≡ representative s u → type_bytes s t ≡ type_bytes s u
      back e =
          let q = same_trans (head_of t l).same (subst (λ (x : ℕ). BecomeEqual s x u) (sym e) (same_sym (head_of u m).same)) in
          λ i. sym q.kinds i ∷ 0 ∷ bytes16 (kept_below (kept_type s) (sym q.args i)) ++ bytes16 (kept_below (kept_type s) (sym q.results i))
          ++ 0 ∷ 0 ∷ 0 ∷ 0 ∷ []

  -- the first of them is kept, and no other
  pub kept_exactly : (t : ℕ) → t < types s → (kept_type s t ≡ true) ↔ ((u : ℕ) → u < t → type_bytes s u ≡ type_bytes s t → ⊥)
  unfolding new_type kept_type
  kept_exactly t l = (forth, back)
    where
      forth : eqb (representative s t) t ≡ true → (u : ℕ) → u < t → type_bytes s u ≡ type_bytes s t → ⊥
      forth k u h e =
          let m : u < types s = omega arith in
          let q : representative s u ≡ representative s t = number_head u t m l ((merged_exactly u t m l).0 e) in
          omega (arith, q, eqb-true (representative s t) t k, (head_of u m).low)

      back : ((u : ℕ) → u < t → type_bytes s u ≡ type_bytes s t → ⊥) → eqb (representative s t) t ≡ true
      back differ =
          let a = head_of t l in
          elim (dec_lt (representative s t) t) [
            | yes h ↦ absurd (differ (representative s t) h ((merged_exactly (representative s t) t (head_in t l) l).1
                (ap (kept_below (kept_type s)) (kept_head (representative s t) (head_kept t l)))))
            | no h ↦ eq-eqb (representative s t) t (omega (arith, a.low))
          ]
