-- The smallest faulty piece of a sheet is as its sentences say, and there is one exactly if the root is refused.
use mathlib.Core.List.{List, []}
use Rattle.std.proofs.Math.Option.{Option, some, none-ne-some}
use Rattle.std.specs.Prelude.{◌≡◌, ℕ, ◌<◌, ◌≤◌}
use Rattle.std.proofs.Math.Path.{refl, ap, subst}
use Rattle.std.proofs.Common.{sym, ◌∙◌, arith}
use Rattle.program.specs.Layout.{Types, terms, authority, types_of}
use Rattle.program.specs.Terms.{Term, tree, program, size}
use Rattle.program.proofs.Laws.Readable.{WellFormed}
use Rattle.program.proofs.Laws.Trees.{program_every}
use Rattle.typing.specs.Places.{Placed, placed, number_of, children_in, children}
use Rattle.typing.proofs.Laws.Places.{EachOf, each_among, tree_number}
use Rattle.typing.specs.Checking.{Judgement, typed, fault, infer}
use Rattle.typing.specs.Faults.{Within, here}
use Rattle.subterms.specs.Smallest.{subterms, FaultyTerm, faulty_as, faulty_at, smallest_of}
use Rattle.subterms.specs.Claims.{judgement_at, HasType, HasFault, has_fault, Stands, Faulty, SmallestPiece}
use Rattle.subterms.proofs.Laws.Order.{NoLater, no_more, as_many, smallest_found, smallest_least}
use Rattle.subterms.proofs.Laws.Subterms.{within_listed, listed_within, within_size, within_trans, within_every, ChildOf, children_of_lem}
use Rattle.subterms.proofs.Laws.Judgements.{FaultOrigin, of_child, own, judged, within_fault, ruled}

some_same : {x y : FaultyTerm} {o : Option FaultyTerm} → o ≡ some x → o ≡ some y → x ≡ y
some_same {x} {y} e f = let z : some x ≡ some y = sym e ∙ f in cc

-- ---- a refused term, from its judgement
record RefusedTerm (c : Term) (j : Judgement) (x : FaultyTerm) : Type 0 where
  fault_is : j ≡ fault x.cause x.place
  number_is : number_of c ≡ x.term
  count_is : size c ≡ x.count

refused_term : (c : Term) (j : Judgement) (x : FaultyTerm) → faulty_as (number_of c) (size c) j ≡ some x → RefusedTerm c j x
refused_term c (typed τ N) x e = absurd (none-ne-some x e)
refused_term c (fault cause at) x e = record {
  fault_is = λ i. fault (ap (λ (y : FaultyTerm). y.cause) same i) (ap (λ (y : FaultyTerm). y.place) same i);
  number_is = ap (λ (y : FaultyTerm). y.term) same;
  count_is = ap (λ (y : FaultyTerm). y.count) same;
}
  where
    same : record { term = number_of c; count = size c; cause = cause; place = at } ≡ x
    same = some_same refl e

no_later_count : {x y : FaultyTerm} → NoLater x y → x.count ≤ y.count
no_later_count (no_more h) = omega arith
no_later_count (as_many e h) = omega arith

no_later_term : {x y : FaultyTerm} → NoLater x y → y.count ≡ x.count → x.term ≤ y.term
no_later_term (no_more h) f = absurd (omega arith)
no_later_term (as_many e h) f = h

-- the smallest of the terms in a term has no more terms in it
pub listed_count : (T : Types) (A : ℕ → ℕ) (Γ : List ℕ) (n : ℕ) (c : Term) {x : FaultyTerm} → smallest_of T A (subterms T Γ n c) ≡ some x → x.count ≤ size c
unfolding faulty_at
listed_count T A Γ n c {x} e =
    let h = smallest_found T A (subterms T Γ n c) x e in
    let p = listed_within T Γ n c h.listed in
    let r = refused_term p.part (infer T A p.bindings p.principal p.part) x (sym (ap (faulty_at T A) p.is) ∙ h.is) in
    omega (arith, r.count_is, within_size T p.within)

-- ---- a term that stands in the program is the tree of its own number
pub record Numbered (s : List ℕ) (c : Term) : Type 0 where
  pub inside : number_of c < terms s
  pub is : c ≡ tree s (number_of c)

tree_numbered : (s : List ℕ) (t : ℕ) → t < terms s → Numbered s (tree s t)
tree_numbered s t l = record { inside = omega (arith, tree_number s t); is = ap (tree s) (sym (tree_number s t)) }

pub numbered : (s : List ℕ) → WellFormed s → {Γ : List ℕ} {n : ℕ} {c : Term} → Within (types_of s) Γ n c [] 0 (program s) → Numbered s c
numbered s w v = within_every (types_of s) (Numbered s) v (program_every s w (Numbered s) (λ t l. tree_numbered s t l))

module _ (s : List ℕ) where
  abbrev T : Types
  T = types_of s

  abbrev A : ℕ → ℕ
  A = authority s

  abbrev all : List Placed
  all = subterms (types_of s) [] 0 (program s)

  -- a refused term of the sheet comes no earlier than the smallest one
  later : {x : FaultyTerm} → smallest_of T A all ≡ some x → (Γ : List ℕ) (n : ℕ) (c : Term) → Within T Γ n c [] 0 (program s) → {cause at : ℕ}
      → infer T A Γ n c ≡ fault cause at → NoLater x (record { term = number_of c; count = size c; cause = cause; place = at })
  unfolding faulty_at
  later {x} e Γ n c w {cause} {at} f =
      let y : FaultyTerm = record { term = number_of c; count = size c; cause = cause; place = at } in
      let h = smallest_least T A all (within_listed T w) y (ap (faulty_as (number_of c) (size c)) f) in
      subst (λ (z : FaultyTerm). NoLater z y) (some_same h.is e) h.no_later

  module _ {x : FaultyTerm} (e : smallest_of T A all ≡ some x) where
    -- its fault is its own, since a child that is refused has fewer terms in it
    record OwnFault (Γ : List ℕ) (n : ℕ) (c : Term) : Type 0 where
      place_is : x.place ≡ number_of c
      typed_children : EachOf (HasType T A) (children_in T Γ n c)

    own_fault : (Γ : List ℕ) (n : ℕ) (c : Term) → Within T Γ n c [] 0 (program s) → size c ≡ x.count
        → {cause place : ℕ} → place ≡ x.place → FaultOrigin T A (number_of c) (children_in T Γ n c) (fault cause place) → OwnFault Γ n c
    own_fault Γ n c w q p (own h r) = record { place_is = sym p; typed_children = h }
    own_fault Γ n c w q p (of_child m f) =
        let y = each_among (λ y. ChildOf T y Γ n c) m (children_of_lem T Γ n c) in
        let g = sym (ap (judgement_at T A) y.stands.is) ∙ f in
        let l = later e y.stands.bindings y.stands.principal y.stands.part (within_trans T y.stands.within w) g in
        absurd (omega (arith, y.fewer, q, no_later_count l))

    few : (Γ : List ℕ) (n u : ℕ) → Stands s Γ n u → Faulty s Γ n u → x.count ≤ size (tree s u)
    few Γ n u w (has_fault f) = no_later_count (later e Γ n (tree s u) w f)

    low : (Γ : List ℕ) (n u : ℕ) → Stands s Γ n u → Faulty s Γ n u → size (tree s u) ≡ x.count → x.term ≤ u
    low Γ n u w (has_fault f) q = omega (arith, no_later_term (later e Γ n (tree s u) w f) q, tree_number s u)

    pub smallest_piece : WellFormed s → SmallestPiece s x.term x.count x.cause × (x.place ≡ x.term)
    unfolding faulty_at children
    smallest_piece v =
        let h = smallest_found T A all x e in
        let p = listed_within T [] 0 (program s) h.listed in
        let r = refused_term p.part (infer T A p.bindings p.principal p.part) x (sym (ap (faulty_at T A) p.is) ∙ h.is) in
        let o = own_fault p.bindings p.principal p.part p.within r.count_is refl
        (subst (FaultOrigin T A (number_of p.part) (children_in T p.bindings p.principal p.part)) r.fault_is
        (judged T A p.bindings p.principal p.part)) in
        let d = numbered s v p.within in
        let q : p.part ≡ tree s x.term = d.is ∙ ap (tree s) r.number_is in
        let place : x.place ≡ x.term = o.place_is ∙ r.number_is in (
          record {
            bindings = p.bindings;
            principal = p.principal;
            inside = omega (arith, d.inside, r.number_is);
            stands = subst (λ (c : Term). Within T p.bindings p.principal c [] 0 (program s)) q p.within;
            count_is = ap size (sym q) ∙ r.count_is;
            refused = ap (infer T A p.bindings p.principal) (sym q) ∙ r.fault_is ∙ ap (fault x.cause) place;
            by_rules_holds = ruled T A p.bindings p.principal p.part r.fault_is;
            children_typed = λ y m. each_among (HasType T A) m
                (subst (λ (c : Term). EachOf (HasType T A) (children_in T p.bindings p.principal c)) q o.typed_children);
            fewest = λ Γ n u w f. few Γ n u w f;
            lowest = λ Γ n u w f g. low Γ n u w f g;
          },
          place,
        )

    -- and the root is refused
    pub root_refused : WellFormed s → HasFault T A (placed [] 0 (program s))
    root_refused v = let h = (smallest_piece v).0 in within_fault T A h.stands (has_fault h.refused)

  -- where the root is refused there is a smallest one
  pub some_refused : HasFault T A (placed [] 0 (program s)) → (x : FaultyTerm) × (smallest_of T A all ≡ some x)
  unfolding faulty_at
  some_refused (has_fault f) =
      let h = smallest_least T A all (within_listed T here) _ (ap (faulty_as (number_of (program s)) (size (program s))) f) in
      (h.least, h.is)
