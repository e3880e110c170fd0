-- The term with a number: it is one of the list and has the number, and there is one wherever the list has one. In a readable sheet it is the term of the table
-- with that number, where it stands. Assumes nothing.
use Rattle.std.specs.Prelude.{Bool, ◌≡◌, ℕ, suc, ◌<◌, ◌≤◌}
use Rattle.std.proofs.Math.Bool.{true, false, cond}
use mathlib.Core.List.{List, [], ◌∷◌, ◌++◌}
use Rattle.std.proofs.Math.Option.{Option, none, some, none-ne-some}
use Rattle.std.proofs.Math.Path.{refl, subst}
use Rattle.std.proofs.Common.{sym, ap, ◌∙◌, arith}
use Rattle.std.proofs.Math.Dec.{eqb}
use borrow.Author.Tests.{eqb-true, eq-eqb}
use Rattle.program.specs.Layout.{Types, terms, types_of}
use Rattle.program.specs.Terms.{Term, tree, program}
use Rattle.program.proofs.Laws.Readable.{WellFormed}
use Rattle.program.proofs.Laws.Trees.{tree_every, Standard}
use Rattle.typing.specs.Places.{Placed, placed, number_of, placed_number, Among, among_first, among_later}
use Rattle.typing.proofs.Laws.Places.{tree_number}
use Rattle.typing.specs.Faults.{Within, here, in_function, in_letrec_body, in_letrec_rest, in_call_function, in_call_argument, in_if_condition, in_if_yes, in_if_no, in_check, in_enable, in_sign, in_test_yes, in_test_no, in_left, in_right, in_post}
use Rattle.subterms.specs.Smallest.{subterms}
use Rattle.subterms.specs.Judging.{with_number}
use Rattle.subterms.specs.Claims.{Stands}
use Rattle.subterms.proofs.Laws.Subterms.{within_listed, listed_within, within_every}
use Rattle.subterms.proofs.Laws.Pieces.{numbered}
use Rattle.subterms.proofs.Laws.Standing.{once}

-- the first of two that is there
abbrev pub first_of : (x y : Option Placed) → Option Placed
first_of none y = y
first_of (some x) y = some x

pub first_of_none : (x : Option Placed) → first_of x none ≡ x
first_of_none none = refl
first_of_none (some x) = refl

pub first_of_assoc : (x y z : Option Placed) → first_of (first_of x y) z ≡ first_of x (first_of y z)
first_of_assoc none y z = refl
first_of_assoc (some x) y z = refl

module _ (t : ℕ) where
  pub number_append : (l m : List Placed) → with_number t (l ++ m) ≡ first_of (with_number t l) (with_number t m)
  unfolding with_number
  number_append [] m = refl
  number_append (x ∷ l) m = go (number_append l m) (eqb (placed_number x) t)
    where
      go : with_number t (l ++ m) ≡ first_of (with_number t l) (with_number t m) → (b : Bool)
          → cond b (some x) (with_number t (l ++ m)) ≡ first_of (cond b (some x) (with_number t l)) (with_number t m)
      go r true = refl
      go r false = r

  -- what is found
  pub record FoundIn (l : List Placed) (x : Placed) : Type 0 where
    pub listed : Among x l
    pub number_is : placed_number x ≡ t

  pub number_found : (l : List Placed) {x : Placed} → with_number t l ≡ some x → FoundIn l x
  unfolding with_number
  number_found [] {x} e = absurd (none-ne-some x e)
  number_found (y ∷ l) {x} e = go (λ h. number_found l h) (eqb (placed_number y) t) refl e
    where
      go : (with_number t l ≡ some x → FoundIn l x) → (b : Bool) → eqb (placed_number y) t ≡ b → cond b (some y) (with_number t l) ≡ some x → FoundIn (y ∷ l) x
      go r true h f = subst (FoundIn (y ∷ l)) (let z : y ≡ x = cc in z) (record { listed = among_first; number_is = eqb-true (placed_number y) t h })
      go r false h f = let k = r f in record { listed = among_later k.listed; number_is = k.number_is }

  -- where one of the list has the number, one is found
  pub number_some : {x : Placed} {l : List Placed} → Among x l → placed_number x ≡ t → (y : Placed) × (with_number t l ≡ some y)
  unfolding with_number
  number_some {x = x} (among_first {l}) e = (x, λ i. cond (eq-eqb (placed_number x) t e i) (some x) (with_number t l))
  number_some (among_later {z} {l} m) e = go (number_some m e) (eqb (placed_number z) t)
    where
      go : (y : Placed) × (with_number t l ≡ some y) → (b : Bool) → (y : Placed) × (cond b (some z) (with_number t l) ≡ some y)
      go r true = (z, refl)
      go r false = r

-- ---- the terms of a readable sheet
module _ (s : List ℕ) (w : WellFormed s) where
  abbrev all : List Placed
  all = subterms (types_of s) [] 0 (program s)

  -- a term of the list with this number is that of the table, and stands in the sheet
  record Table (t : ℕ) (x : Placed) : Type 0 where
    bindings : List ℕ
    principal : ℕ
    is : x ≡ placed bindings principal (tree s t)
    stands : Stands s bindings principal t
    inside : t < terms s

  listed_table : (t : ℕ) {x : Placed} → Among x all → placed_number x ≡ t → Table t x
  listed_table t {x} m e =
      let p = listed_within (types_of s) [] 0 (program s) m in
      let d = numbered s w p.within in
      let n = sym (ap placed_number p.is) ∙ e in
      let q : p.part ≡ tree s t = d.is ∙ ap (tree s) n in
      record {
        bindings = p.bindings;
        principal = p.principal;
        is = p.is ∙ ap (placed p.bindings p.principal) q;
        stands = subst (λ (c : Term). Within (types_of s) p.bindings p.principal c [] 0 (program s)) q p.within;
        inside = omega (arith, d.inside, n);
      }

  -- the term with a number is the one that stands there
  pub number_stands : (Γ : List ℕ) (n t : ℕ) → Stands s Γ n t → with_number t all ≡ some (placed Γ n (tree s t))
  number_stands Γ n t v =
      let y = number_some t (within_listed (types_of s) v) (tree_number s t) in
      let f = number_found t all y.1 in
      let k = listed_table t f.listed f.number_is in
      let o = once s w t k.bindings Γ k.principal n k.stands v in
      y.1 ∙ ap some k.is ∙ λ i. some (placed (o.0 i) (o.1 i) (tree s t))

  -- and past the last there is none
  pub number_past : (t : ℕ) → terms s ≤ t → with_number t all ≡ none
  number_past t h = go (with_number t all) refl
    where
      go : (o : Option Placed) → with_number t all ≡ o → o ≡ none
      go none e = refl
      go (some x) e = let f = number_found t all e in absurd (omega (arith, h, (listed_table t f.listed f.number_is).inside))

  -- what stands in a term has no higher number than the term
  pub number_above : (Γ : List ℕ) (n k t : ℕ) → k < terms s → k < t → with_number t (subterms (types_of s) Γ n (tree s k)) ≡ none
  number_above Γ n k t l h = go (with_number t (subterms (types_of s) Γ n (tree s k))) refl
    where
      go : (o : Option Placed) → with_number t (subterms (types_of s) Γ n (tree s k)) ≡ o → o ≡ none
      go none e = refl
      go (some x) e =
          let f = number_found t (subterms (types_of s) Γ n (tree s k)) e in
          let p = listed_within (types_of s) Γ n (tree s k) f.listed in
          let every = tree_every s w (λ (c : Term). number_of c ≤ k) (suc k) l (λ j g. omega (arith, tree_number s j, g)) k (omega arith) in
          let low = within_every (types_of s) (λ (c : Term). number_of c ≤ k) p.within every in
          absurd (omega (arith, h, low, f.number_is, ap placed_number p.is))

-- ---- what the bytes give of the whole, they give of each term in it
module _ (T : Types) where
  pub within_standard : {Δ : List ℕ} {m : ℕ} {d : Term} {Γ : List ℕ} {n : ℕ} {c : Term} → Within T Δ m d Γ n c → Standard T c → Standard T d
  within_standard here h = h
  within_standard (in_function w) h = within_standard w h.2
  within_standard (in_letrec_body w) h = within_standard w h.2
  within_standard (in_letrec_rest w) h = within_standard w h.3
  within_standard (in_call_function w) h = within_standard w h.0
  within_standard (in_call_argument w) h = within_standard w h.1
  within_standard (in_if_condition w) h = within_standard w h.0
  within_standard (in_if_yes w) h = within_standard w h.1
  within_standard (in_if_no w) h = within_standard w h.2
  within_standard (in_check w) h = within_standard w h
  within_standard (in_enable w) h = within_standard w h
  within_standard (in_sign w) h = within_standard w h
  within_standard (in_test_yes w) h = within_standard w h.0
  within_standard (in_test_no w) h = within_standard w h.1
  within_standard (in_left w) h = within_standard w h.0
  within_standard (in_right w) h = within_standard w h.1
  within_standard (in_post w) h = within_standard w h
