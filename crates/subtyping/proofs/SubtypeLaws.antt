-- What the test of two types answers, way by way, and the choice of the wider. Assumes nothing.
use mathlib.Core.Bool.{Bool, true, false, ◌&&◌}
use mathlib.Core.List.{List}
use mathlib.Core.Option.{none, some}
use mathlib.Core.Path.{◌≡◌, refl, sym, ap, ◌∙◌}
use Prim.Native.Nat.{ℕ, zero, suc, ◌+◌, ◌-◌, ◌<◌, ◌≤◌}
use native.Mathlib.Omega.{arith}
use lib.Dec.{eqb, leb, ltb}
use borrow.Author.Tests.{eq-eqb, ne_eqb, lt-leb, le-leb}
use Rattle.privileges.specs.Sets.{subset}
use Rattle.program.specs.Tests.{also, or_else}
use Rattle.program.specs.Layout.{Types, types_of}
use Rattle.program.specs.Records.{type_record}
use Rattle.program.specs.declared.records.Counts.{Counts}
use Rattle.program.specs.declared.records.TypeRecord.{TypeRecord}
use Rattle.program.specs.Limits.{max_types}
use Rattle.program.proofs.Laws.Types.{PartsLower, function_type, lower_types}
use Rattle.typing.specs.Subtyping.{subtype_in, subtype, wider}
use Rattle.typing.proofs.Laws.Subtyping.{subtype_sound, subtype_complete}
use Rattle.accessors.specs.Internal.{FormedSheet}
use Rattle.subtyping.specs.Known.{knows, with_pair, Known, Answered}
use Rattle.subtyping.specs.Laws.Records.{TypeParts, function_is, type_parts}
use Rattle.subtyping.proofs.KnownLaws.{known_noted}

-- ---- is_function
pub function_low : (t n : ℕ) → t < 2 → false ≡ (leb 2 t && ltb t n)
function_low t n h = rw (lt-leb 2 t h) refl

pub function_high : (t n : ℕ) → 2 ≤ t → ltb t n ≡ (leb 2 t && ltb t n)
function_high t n h = rw (le-leb 2 t h) refl

-- ---- more steps than the sum of the two numbers change nothing
same_parts : (e a b c x y z w : Bool) → (a ≡ true → b ≡ true → (x ≡ z) × (y ≡ w))
    → (or_else e λ _. also a λ _. also b λ _. also x λ _. also c λ _. y) ≡ (or_else e λ _. also a λ _. also b λ _. also z λ _. also c λ _. w)
same_parts true a b c x y z w h = refl
same_parts false false b c x y z w h = refl
same_parts false true false c x y z w h = refl
same_parts false true true c x y z w h = let q = h refl refl in λ i. also (q.0 i) λ _. also c λ _. q.1 i

module _ (T : Types) (L : PartsLower T) where
  steps_more : (k a b : ℕ) → a + b ≤ k → subtype_in T (suc k) a b ≡ subtype_in T k a b
  unfolding subtype_in
  steps_more zero a b h = let e : a ≡ b = omega arith in rw (eq-eqb a b e) refl
  steps_more (suc k) a b h = same_parts (eqb a b) (T.is_fun a) (T.is_fun b) (subset (T.latent a) (T.latent b))
      (subtype_in T (suc k) (T.arg b) (T.arg a)) (subtype_in T (suc k) (T.res a) (T.res b)) (subtype_in T k (T.arg b) (T.arg a))
      (subtype_in T k (T.res a) (T.res b)) λ p q.
      let x = L.arg_lower a p in let y = L.arg_lower b q in let z = L.res_lower a p in let w = L.res_lower b q in
      (steps_more k (T.arg b) (T.arg a) (omega arith), steps_more k (T.res a) (T.res b) (omega arith))

  steps_add : (d a b : ℕ) → subtype_in T (d + (a + b)) a b ≡ subtype_in T (a + b) a b
  steps_add zero a b = ap (λ (k : ℕ). subtype_in T k a b) {x = 0 + (a + b)} {y = a + b} (omega arith)
  steps_add (suc d) a b = ap (λ (k : ℕ). subtype_in T k a b) {x = suc d + (a + b)} {y = suc (d + (a + b))} (omega arith)
      ∙ steps_more (d + (a + b)) a b (omega arith) ∙ steps_add d a b

  steps_enough : (k a b : ℕ) → a + b ≤ k → subtype_in T k a b ≡ subtype T a b
  unfolding subtype
  steps_enough k a b h = ap (λ (k : ℕ). subtype_in T k a b) {x = k} {y = (k - (a + b)) + (a + b)} (omega arith) ∙ steps_add (k - (a + b)) a b

  one_step : (a b : ℕ) → subtype T a b ≡ or_else (eqb a b) λ _. also (T.is_fun a) λ _. also (T.is_fun b) λ _.
      also (subtype T (T.arg b) (T.arg a)) λ _. also (subset (T.latent a) (T.latent b)) λ _. subtype T (T.res a) (T.res b)
  unfolding subtype_in
  one_step a b = sym (steps_enough (suc (a + b)) a b (omega arith)) ∙ same_parts (eqb a b) (T.is_fun a) (T.is_fun b) (subset (T.latent a) (T.latent b))
      (subtype_in T (a + b) (T.arg b) (T.arg a)) (subtype_in T (a + b) (T.res a) (T.res b)) (subtype T (T.arg b) (T.arg a))
      (subtype T (T.res a) (T.res b)) λ p q.
      let x = L.arg_lower a p in let y = L.arg_lower b q in let z = L.res_lower a p in let w = L.res_lower b q in
      (steps_enough (a + b) (T.arg b) (T.arg a) (omega arith), steps_enough (a + b) (T.res a) (T.res b) (omega arith))

-- ---- the ways that comparing two types ends
also_false : (a : Bool) → (also a λ _. false) ≡ false
also_false true = refl
also_false false = refl

-- a function type is one of the sheet's, of which there are at most 256
pub small : {s : List ℕ} {c : Counts} → FormedSheet s c → (t : ℕ) {u : Bool} → u ≡ (leb 2 t && ltb t c.types) → u ≡ true → t < max_types
small {s} S t h e = omega (arith, (function_type s S.well_formed t (sym (function_is S t h) ∙ e)).inside, S.well_formed.types_most)

module _ {s : List ℕ} {c : Counts} (S : FormedSheet s c) (a b : ℕ) where
  lower : PartsLower (types_of s)
  lower = lower_types s S.well_formed

  pub sub_known : {l : List ℕ} {k : Bool} → Known (types_of s) l → a < max_types → b < max_types → k ≡ knows l a b → k ≡ true
      → true ≡ subtype (types_of s) a b
  sub_known K ha hb p e = sym (subtype_complete (types_of s) lower (K.fits a b ha hb (sym p ∙ e)))

  pub sub_equal : a ≡ b → true ≡ subtype (types_of s) a b
  sub_equal e = sym (one_step (types_of s) lower a b ∙ rw (eq-eqb a b e) refl)

  module _ (ne : a ≡ b → ⊥) where
    unequal : subtype (types_of s) a b ≡ (also ((types_of s).is_fun a) λ _. also ((types_of s).is_fun b) λ _.
        also (subtype (types_of s) ((types_of s).arg b) ((types_of s).arg a)) λ _. also (subset ((types_of s).latent a) ((types_of s).latent b)) λ _. subtype
        (types_of s) ((types_of s).res a) ((types_of s).res b))
    unequal = one_step (types_of s) lower a b ∙ rw (ne_eqb a b ne) refl

    module _ {u : Bool} (hu : u ≡ (leb 2 a && ltb a c.types)) where
      pub sub_left : u ≡ false → false ≡ subtype (types_of s) a b
      sub_left e = sym (unequal ∙ λ i. also ((sym (function_is S a hu) ∙ e) i) λ _. also ((types_of s).is_fun b) λ _.
          also (subtype (types_of s) ((types_of s).arg b) ((types_of s).arg a)) λ _. also (subset ((types_of s).latent a) ((types_of s).latent b)) λ _. subtype
          (types_of s) ((types_of s).res a) ((types_of s).res b))

      module _ (eu : u ≡ true) {v : Bool} (hv : v ≡ (leb 2 b && ltb b c.types)) where
        first_function : (types_of s).is_fun a ≡ true
        first_function = sym (function_is S a hu) ∙ eu

        pub sub_right : v ≡ false → false ≡ subtype (types_of s) a b
        sub_right e = sym (unequal ∙ λ i. also (first_function i) λ _. also ((sym (function_is S b hv) ∙ e) i) λ _.
            also (subtype (types_of s) ((types_of s).arg b) ((types_of s).arg a)) λ _. also
            (subset ((types_of s).latent a) ((types_of s).latent b)) λ _. subtype
            (types_of s) ((types_of s).res a) ((types_of s).res b))

        module _ (ev : v ≡ true) {f g : TypeRecord} (hf : f ≡ type_record s c a) (hg : g ≡ type_record s c b) where
          second_function : (types_of s).is_fun b ≡ true
          second_function = sym (function_is S b hv) ∙ ev

          pf : TypeParts s a f
          pf = type_parts S a first_function hf

          pg : TypeParts s b g
          pg = type_parts S b second_function hg

          functions : subtype (types_of s) a b ≡ (also (subtype (types_of s) g.arg f.arg) λ _. also (subset f.latent g.latent) λ _. subtype
              (types_of s) f.res g.res)
          functions = unequal
              ∙ λ i. also (first_function i) λ _. also (second_function i) λ _. also (subtype (types_of s) (sym pg.arg_is i) (sym pf.arg_is i)) λ _.
              also (subset (sym pf.latent_is i) (sym pg.latent_is i)) λ _. subtype (types_of s) (sym pf.res_is i) (sym pg.res_is i)

          -- the sum of the numbers falls
          pub args_fall : g.arg + f.arg < a + b
          args_fall = omega (arith, pf.arg_is, pg.arg_is, lower.arg_lower a first_function, lower.arg_lower b second_function)

          pub results_fall : f.res + g.res < a + b
          results_fall = omega (arith, pf.res_is, pg.res_is, lower.res_lower a first_function, lower.res_lower b second_function)

          module _ {l : Bool} (hl : l ≡ subset f.latent g.latent) where
            pub sub_latent : l ≡ false → false ≡ subtype (types_of s) a b
            sub_latent e = sym (functions ∙ rw (← hl, e) (also_false (subtype (types_of s) g.arg f.arg)))

            module _ (el : l ≡ true) {j : Bool} (hj : j ≡ subtype (types_of s) g.arg f.arg) where
              pub sub_args : j ≡ false → false ≡ subtype (types_of s) a b
              sub_args e = sym (functions ∙ rw (← hj, e) refl)

              pub sub_results : j ≡ true → {r : Bool} → r ≡ subtype (types_of s) f.res g.res → r ≡ subtype (types_of s) a b
              sub_results e h = h ∙ sym (functions ∙ rw (← hj, e, ← hl, el) refl)

              -- a pair that is a subtype pair may be noted
              pub sub_noted : j ≡ true → {r : Bool} → r ≡ subtype (types_of s) f.res g.res → r ≡ true → {l l' : List ℕ} → Known (types_of s) l
                  → l' ≡ with_pair l a b → Answered (types_of s) true (subtype (types_of s) a b) l'
              sub_noted e h t {l} K n =
                  let is : true ≡ subtype (types_of s) a b = sym t ∙ sub_results e h in
                  record { is = is; known = known_noted (types_of s) l K a b (small S a hu eu) (small S b hv ev) (subtype_sound (types_of s) a b (sym is)) n }

-- ---- the wider of two types
module _ (T : Types) (a b : ℕ) {x : Bool} (hx : x ≡ subtype T a b) where
  pub wider_first_fits : x ≡ true → some b ≡ wider T a b
  unfolding wider
  wider_first_fits e = rw (← hx, e) refl

  module _ (e : x ≡ false) {y : Bool} (hy : y ≡ subtype T b a) where
    pub wider_second_fits : y ≡ true → some a ≡ wider T a b
    unfolding wider
    wider_second_fits g = rw (← hx, e, ← hy, g) refl

    pub wider_neither : y ≡ false → none ≡ wider T a b
    unfolding wider
    wider_neither g = rw (← hx, e, ← hy, g) refl
