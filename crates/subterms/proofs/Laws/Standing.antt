-- Every term of a readable sheet stands in one place of it: it has bindings and a principal there, and no others. Each term but the root stands once as a
-- child, so its place is that of its parent, one step further.
use Rattle.std.specs.Prelude.{Bool, true, false, cond, List, [], ◌∷◌, ◌⊎◌, ◌≡◌, refl, ℕ, zero, suc, ◌+◌, ◌<◌, ◌≤◌, eqb}
use Rattle.std.proofs.Common.{inl, inr, ⊎_elim, sym, ap, ◌∙◌, subst, eq-or-lt_of_le, arith, eqb-true, eq-eqb}
use Rattle.std.proofs.Math.Option.{Option}
use Rattle.std.proofs.Math.Decide.{dec_lt}
use Rattle.program.specs.Layout.{Types, terms, root, guard_of, kind_byte, small, first, second, third, types_of}
use Rattle.program.specs.Formats.{Kind, Boolean, Number, Variable, Function, Letrec, Call, If, Check, Enable, Sign, Test, Sum, Difference, Less, Post, kind_of, format}
use Rattle.program.specs.Terms.{Term, node, tree, program}
use Rattle.program.specs.Decoding.{child_count, times_in, times_below}
use Rattle.program.proofs.Laws.Readable.{WellFormed}
use Rattle.program.proofs.Laws.Trees.{tree_node, root_lower}
use Rattle.program.proofs.Laws.Nesting.{one_parent, parent_is, times_least}
use Rattle.program.proofs.Laws.Sizes.{not_below}
use Rattle.typing.specs.Places.{Placed, placed, number_of, placed_number, children_in, Among, among_first, among_later}
use Rattle.typing.proofs.Laws.Places.{each_among, tree_number}
use Rattle.typing.specs.Faults.{Within, here, in_function, in_letrec_body, in_letrec_rest, in_call_function, in_call_argument, in_if_condition, in_if_yes, in_if_no, in_check, in_enable, in_sign, in_test_yes, in_test_no, in_left, in_right, in_post}
use Rattle.subterms.specs.Claims.{Stands}
use Rattle.subterms.proofs.Laws.Subterms.{within_trans, ChildOf, children_of_lem}
use Rattle.subterms.proofs.Laws.Pieces.{numbered}

-- ---- how often a number is among those of a list of terms
abbrev one : Bool → ℕ
one b = cond b 1 0

abbrev times : (u : ℕ) → List Placed → ℕ
times u [] = 0
times u (x ∷ l) = one (eqb (placed_number x) u) + times u l

times_among : (u : ℕ) {x : Placed} {l : List Placed} → Among x l → placed_number x ≡ u → 0 < times u l
times_among u {x} (among_first {l}) e = omega (arith, ap one (eq-eqb (placed_number x) u e))
times_among u (among_later m) e = omega (arith, times_among u m e)

record Has (u : ℕ) (l : List Placed) : Type 0 where
  which : Placed
  among : Among which l
  number_is : placed_number which ≡ u

times_has : (u : ℕ) (l : List Placed) → 0 < times u l → Has u l
times_has u [] h = absurd (omega arith)
times_has u (x ∷ l) h = go (λ g. times_has u l g) (eqb (placed_number x) u) refl h
  where
    go : (0 < times u l → Has u l) → (b : Bool) → eqb (placed_number x) u ≡ b → 0 < one b + times u l → Has u (x ∷ l)
    go r true e h = record { which = x; among = among_first; number_is = eqb-true (placed_number x) u e }
    go r false e h = let k = r (omega arith) in record { which = k.which; among = among_later k.among; number_is = k.number_is }

-- one that is there once is one term
times_same : (u : ℕ) (l : List Placed) {x y : Placed} → Among x l → Among y l → placed_number x ≡ u → placed_number y ≡ u → times u l ≤ 1 → x ≡ y
times_same u [] m k e f h = elim m [ ]
times_same u (z ∷ l) among_first among_first e f h = refl
times_same u (z ∷ l) among_first (among_later m) e f h = absurd (omega (arith, ap one (eq-eqb (placed_number z) u e), times_among u m f))
times_same u (z ∷ l) (among_later m) among_first e f h = absurd (omega (arith, ap one (eq-eqb (placed_number z) u f), times_among u m e))
times_same u (z ∷ l) (among_later m) (among_later k) e f h = times_same u l m k e f (omega arith)

-- ---- the children of a term are those that its record names
module _ (s : List ℕ) (Γ : List ℕ) (n u : ℕ) where
  named : (a : ℕ) → one (eqb (number_of (tree s a)) u) ≡ one (eqb a u)
  named a = ap (λ (k : ℕ). one (eqb k u)) (tree_number s a)

  node_times : (G : ℕ → Option ℕ) (k : Kind) (t x a b c : ℕ) → times u (children_in (types_of s) Γ n (node G k t x a b c (tree s)))
      ≡ child_count (format k).first a u + child_count (format k).second b u + child_count (format k).third c u
  node_times G Boolean t x a b c = refl
  node_times G Number t x a b c = refl
  node_times G Variable t x a b c = refl
  node_times G Function t x a b c = omega (arith, named b)
  node_times G Letrec t x a b c = omega (arith, named b, named c)
  node_times G Call t x a b c = omega (arith, named a, named b)
  node_times G If t x a b c = omega (arith, named a, named b, named c)
  node_times G Check t x a b c = omega (arith, named a)
  node_times G Enable t x a b c = omega (arith, named a)
  node_times G Sign t x a b c = omega (arith, named a)
  node_times G Test t x a b c = omega (arith, named a, named b)
  node_times G Sum t x a b c = omega (arith, named a, named b)
  node_times G Difference t x a b c = omega (arith, named a, named b)
  node_times G Less t x a b c = omega (arith, named a, named b)
  node_times G Post t x a b c = omega (arith, named a)

  children_times : WellFormed s → (t : ℕ) → t < terms s → times u (children_in (types_of s) Γ n (tree s t)) ≡ times_in s u t
  children_times w t l =
      ap (λ (c : Term). times u (children_in (types_of s) Γ n c)) (tree_node s w t l)
      ∙ node_times (guard_of s) (kind_of (kind_byte s t)) t (small s t) (first s t) (second s t) (third s t)

-- ---- a term in another is that one, or a child of one in it
module _ (T : Types) where
  record Parent (x : Placed) (Γ : List ℕ) (n : ℕ) (c : Term) : Type 0 where
    bindings : List ℕ
    principal : ℕ
    part : Term
    within : Within T bindings principal part Γ n c
    child : Among x (children_in T bindings principal part)

  abbrev FoundAmong : Placed → (Γ : List ℕ) (n : ℕ) (c : Term) → Type 0
  FoundAmong x Γ n c = (x ≡ placed Γ n c) ⊎ Parent x Γ n c

  -- from a child y of c
  step : {x : Placed} {Δ : List ℕ} {m : ℕ} {d : Term} (Γ : List ℕ) (n : ℕ) (c : Term) → Among (placed Δ m d) (children_in T Γ n c)
      → ((Θ : List ℕ) (k : ℕ) (e : Term) → Within T Θ k e Δ m d → Within T Θ k e Γ n c) → FoundAmong x Δ m d → FoundAmong x Γ n c
  step Γ n c a f (inl e) = inr (record { bindings = Γ; principal = n; part = c; within = here; child = subst (λ z. Among z (children_in T Γ n c)) (sym e) a })
  step Γ n c a f (inr p) = inr (record {
    bindings = p.bindings;
    principal = p.principal;
    part = p.part;
    within = f p.bindings p.principal p.part p.within;
    child = p.child;
  })

  parent_of : {Δ : List ℕ} {m : ℕ} {d : Term} {Γ : List ℕ} {n : ℕ} {c : Term} → Within T Δ m d Γ n c → FoundAmong (placed Δ m d) Γ n c
  parent_of here = inl refl
  parent_of (in_function w) = step _ _ _ among_first (λ _ _ _ v. in_function v) (parent_of w)
  parent_of (in_letrec_body w) = step _ _ _ among_first (λ _ _ _ v. in_letrec_body v) (parent_of w)
  parent_of (in_letrec_rest w) = step _ _ _ (among_later among_first) (λ _ _ _ v. in_letrec_rest v) (parent_of w)
  parent_of (in_call_function w) = step _ _ _ among_first (λ _ _ _ v. in_call_function v) (parent_of w)
  parent_of (in_call_argument w) = step _ _ _ (among_later among_first) (λ _ _ _ v. in_call_argument v) (parent_of w)
  parent_of (in_if_condition w) = step _ _ _ among_first (λ _ _ _ v. in_if_condition v) (parent_of w)
  parent_of (in_if_yes w) = step _ _ _ (among_later among_first) (λ _ _ _ v. in_if_yes v) (parent_of w)
  parent_of (in_if_no w) = step _ _ _ (among_later (among_later among_first)) (λ _ _ _ v. in_if_no v) (parent_of w)
  parent_of (in_check w) = step _ _ _ among_first (λ _ _ _ v. in_check v) (parent_of w)
  parent_of (in_enable w) = step _ _ _ among_first (λ _ _ _ v. in_enable v) (parent_of w)
  parent_of (in_sign w) = step _ _ _ among_first (λ _ _ _ v. in_sign v) (parent_of w)
  parent_of (in_test_yes w) = step _ _ _ among_first (λ _ _ _ v. in_test_yes v) (parent_of w)
  parent_of (in_test_no w) = step _ _ _ (among_later among_first) (λ _ _ _ v. in_test_no v) (parent_of w)
  parent_of (in_left w) = step _ _ _ among_first (λ _ _ _ v. in_left v) (parent_of w)
  parent_of (in_right w) = step _ _ _ (among_later among_first) (λ _ _ _ v. in_right v) (parent_of w)
  parent_of (in_post w) = step _ _ _ among_first (λ _ _ _ v. in_post v) (parent_of w)

-- ---- a term that stands as a child does so in some term
parent_in : (s : List ℕ) (u n : ℕ) → 0 < times_below s u n → (t : ℕ) × (t < n) × (0 < times_in s u t)
parent_in s u zero h = absurd (omega arith)
parent_in s u (suc n) h = go (λ g. parent_in s u n g) (times_in s u n) refl
  where
    go : (0 < times_below s u n → (t : ℕ) × (t < n) × (0 < times_in s u t)) → (k : ℕ) → times_in s u n ≡ k → (t : ℕ) × (t < suc n) × (0 < times_in s u t)
    go r zero e = let q = r (omega (arith, e, h)) in (q.0, omega (arith, q.1), q.2)
    go r (suc k) e = (n, omega arith, omega (arith, e))

-- and that one is higher
children_lower : (s : List ℕ) → WellFormed s → (u t : ℕ) → t < terms s → 0 < times_in s u t → u < t
children_lower s w u t l h = go (dec_lt u t)
  where
    go : Dec (u < t) → u < t
    go (yes g) = g
    go (no g) = absurd (omega (arith, h, not_below s w u (suc t) (omega arith) (omega (arith, g))))

module _ (s : List ℕ) (w : WellFormed s) where
  pub record HasPlace (u : ℕ) : Type 0 where
    pub bindings : List ℕ
    pub principal : ℕ
    pub stands : Stands s bindings principal u

  -- ---- every term stands somewhere: of the last k terms each does
  root_place : (u : ℕ) → u ≡ root s → HasPlace u
  root_place u e = record { bindings = []; principal = 0; stands = subst (λ (c : Term). Within (types_of s) [] 0 (tree s u) [] 0 c) (ap (tree s) e) here }

  -- a child stands where its parent's children do
  child_place : (t u : ℕ) → t < terms s → 0 < times_in s u t → HasPlace t → HasPlace u
  child_place t u l h p =
      let k = times_has u (children_in (types_of s) p.bindings p.principal (tree s t))
      (omega (arith, h, children_times s p.bindings p.principal u w t l)) in
      let y = each_among (λ y. ChildOf (types_of s) y p.bindings p.principal (tree s t)) k.among
      (children_of_lem (types_of s) p.bindings p.principal (tree s t)) in
      let v = within_trans (types_of s) y.stands.within p.stands in
      let e : number_of y.stands.part ≡ u = sym (ap placed_number y.stands.is) ∙ k.number_is in
      record {
        bindings = y.stands.bindings;
        principal = y.stands.principal;
        stands = subst (λ (c : Term). Within (types_of s) y.stands.bindings y.stands.principal c [] 0 (program s))
            ((numbered s w v).is ∙ ap (tree s) e) v;
      }

  last_places : (k u : ℕ) → u < terms s → terms s ≤ u + k → HasPlace u
  last_places zero u l h = absurd (omega arith)
  last_places (suc k) u l h =
      ⊎_elim (λ e. root_place u e)
      (λ g. let t = parent_in s u (terms s) (omega (arith, one_parent s w u g)) in
      let lower = children_lower s w u t.0 t.1 t.2 in
      child_place t.0 u t.1 t.2 (last_places k t.0 t.1 (omega arith)))
      (eq-or-lt_of_le {n = u} {m = root s} (omega (arith, l)))

  pub place : (u : ℕ) → u < terms s → HasPlace u
  place u l = last_places (terms s) u l (omega arith)

  -- ---- and nowhere else
  record FromParent (Γ : List ℕ) (n u : ℕ) : Type 0 where
    number : ℕ
    bindings : List ℕ
    principal : ℕ
    inside : number < terms s
    stands : Stands s bindings principal number
    child : Among (placed Γ n (tree s u)) (children_in (types_of s) bindings principal (tree s number))
    counted : 0 < times_in s u number

  from_parent : (Γ : List ℕ) (n u : ℕ) → Parent (types_of s) (placed Γ n (tree s u)) [] 0 (program s) → FromParent Γ n u
  from_parent Γ n u p =
      let d = numbered s w p.within in
      let a = subst (λ (c : Term). Among (placed Γ n (tree s u)) (children_in (types_of s) p.bindings p.principal c)) d.is p.child in
      record {
        number = number_of p.part;
        bindings = p.bindings;
        principal = p.principal;
        inside = d.inside;
        stands = subst (λ (c : Term). Within (types_of s) p.bindings p.principal c [] 0 (program s)) d.is p.within;
        child = a;
        counted = omega (arith, children_times s p.bindings p.principal u w (number_of p.part) d.inside, times_among u a (tree_number s u));
      }

  abbrev SamePlace : (Γ Δ : List ℕ) (n m u : ℕ) → Type 0
  SamePlace Γ Δ n m u = placed Γ n (tree s u) ≡ placed Δ m (tree s u)

  -- two places of the last k terms are one
  last_once : (k u : ℕ) → terms s ≤ u + k → (Γ Δ : List ℕ) (n m : ℕ) → Stands s Γ n u → Stands s Δ m u → SamePlace Γ Δ n m u
  last_once zero u h Γ Δ n m v v' = absurd (omega (arith, (numbered s w v).inside, tree_number s u))
  last_once (suc k) u h Γ Δ n m v v' = go (λ t l. last_once k t l) (parent_of (types_of s) v) (parent_of (types_of s) v')
    where
      -- the root is no child
      no_child : {Γ : List ℕ} {n : ℕ} {Θ : List ℕ} {o : ℕ} → placed Θ o (tree s u) ≡ placed [] 0 (program s) → FromParent Γ n u → ⊥
      no_child e p =
          let q : u ≡ root s = sym (tree_number s u) ∙ ap placed_number e ∙ tree_number s (root s) in
          omega (arith, children_lower s w u p.number p.inside p.counted, p.inside, root_lower s w)

      same_parent : (p : FromParent Γ n u) (q : FromParent Δ m u) → u < root s → p.number ≡ q.number
      same_parent p q l =
          sym (parent_is s u (terms s) p.number (one_parent s w u l) p.inside p.counted)
          ∙ parent_is s u (terms s) q.number (one_parent s w u l) q.inside q.counted

      go : ((t : ℕ) → terms s ≤ t + k → (Γ Δ : List ℕ) (n m : ℕ) → Stands s Γ n t → Stands s Δ m t → SamePlace Γ Δ n m t)
          → FoundAmong (types_of s) (placed Γ n (tree s u)) [] 0 (program s) → FoundAmong (types_of s) (placed Δ m (tree s u)) [] 0 (program s)
          → SamePlace Γ Δ n m u
      go r (inl e) (inl f) = e ∙ sym f
      go r (inl e) (inr q) = absurd (no_child e (from_parent Δ m u q))
      go r (inr p) (inl f) = absurd (no_child f (from_parent Γ n u p))
      go r (inr p) (inr q) =
          let a = from_parent Γ n u p in
          let b = from_parent Δ m u q in
          let lower = children_lower s w u a.number a.inside a.counted in
          let l : u < root s = omega (arith, lower, a.inside) in
          let e = same_parent a b l in
          let c = subst (λ (t : ℕ). Stands s b.bindings b.principal t) (sym e) b.stands in
          let d = r a.number (omega (arith, lower, h)) a.bindings b.bindings a.principal b.principal a.stands c in
          let i = subst (λ (t : ℕ). Among (placed Δ m (tree s u)) (children_in (types_of s) b.bindings b.principal (tree s t))) (sym e) b.child in
          let j = subst (λ (z : Placed). Among (placed Δ m (tree s u)) (children_of z)) (sym d) i in
          times_same u (children_in (types_of s) a.bindings a.principal (tree s a.number)) a.child j (tree_number s u) (tree_number s u)
          (omega (
            arith,
            children_times s a.bindings a.principal u w a.number a.inside,
            times_least s u (terms s) a.number a.inside,
            one_parent s w u l,
          ))
        where
          children_of : Placed → List Placed
          children_of (placed Θ o c) = children_in (types_of s) Θ o c

  pub once : (u : ℕ) (Γ Δ : List ℕ) (n m : ℕ) → Stands s Γ n u → Stands s Δ m u → (Γ ≡ Δ) × (n ≡ m)
  once u Γ Δ n m v v' =
      let e = last_once (terms s) u (omega arith) Γ Δ n m v v' in
      (ap bound_in e, ap signed_by e)
    where
      bound_in : Placed → List ℕ
      bound_in (placed Θ o c) = Θ

      signed_by : Placed → ℕ
      signed_by (placed Θ o c) = o
