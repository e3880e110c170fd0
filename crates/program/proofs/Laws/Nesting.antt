-- In a readable sheet every term but the root has one parent, and the program's tree is at most 32 high.
use Rattle.std.specs.Prelude.{Bool, true, false, cond, List, ◌≡◌, refl, ℕ, zero, suc, ◌+◌, ◌-◌, ◌<◌, ◌≤◌, max, eqb}
use Rattle.std.proofs.Common.{true≢false, ⊎_elim, sym, ap, ◌∙◌, subst, eq-or-lt_of_le, arith, eq-eqb, ne_eqb}
use Rattle.std.proofs.lemmas.Bool.{false≢true}
use Rattle.std.proofs.Math.Nat.{max-le}
use Rattle.std.proofs.Math.Decide.{dec_lt}
use Rattle.program.specs.Limits.{max_nesting}
use Rattle.program.specs.Tests.{or_else}
use Rattle.program.specs.Layout.{terms, guard_of, root, kind_byte, small, first, second, third}
use Rattle.program.specs.Formats.{child, Format, Kind, Boolean, Number, Variable, Function, Letrec, Call, If, Check, Enable, Sign, Test, Sum, Difference, Less, Post, kind_of, format}
use Rattle.program.specs.Terms.{Term, boolean, number, variable, function, letrec, call, if, check, enable, sign, test, binary, post, node, tree, program}
use Rattle.program.specs.Decoding.{child_count, times_in, times_below, parent, nested_in}
use Rattle.program.proofs.Laws.Readable.{WellFormed}
use Rattle.program.proofs.Laws.Trees.{Below, below, tree_node, placed, root_lower}

-- the number of terms on the longest way down
abbrev pub height : Term → ℕ
height (boolean at b) = 1
height (number at n) = 1
height (variable at i) = 1
height (function at ty body) = 1 + height body
height (letrec at ty body rest) = 1 + max (height body) (height rest)
height (call at f a) = 1 + max (height f) (height a)
height (if at c y n) = 1 + max (height c) (max (height y) (height n))
height (check at p c) = 1 + height c
height (enable at p c) = 1 + height c
height (sign at n c) = 1 + height c
height (test at p y n) = 1 + max (height y) (height n)
height (binary at op a b) = 1 + max (height a) (height b)
height (post at ch g c) = 1 + height c

-- ---- every term but the root stands once as a child
pub one_parent : (s : List ℕ) → WellFormed s → (x : ℕ) → x < root s → times_below s x (terms s) ≡ 1
one_parent s w x h =
    (placed s w x (omega (arith, root_lower s w))).times ∙ ap (λ (b : Bool). cond b 0 1) (ne_eqb x (root s) (λ e. omega arith))

pub times_least : (s : List ℕ) (x n t : ℕ) → t < n → times_in s x t ≤ times_below s x n
times_least s x zero t h = absurd (omega arith)
times_least s x (suc n) t h =
    ⊎_elim (λ e. let q = ap (times_in s x) e in omega arith) (λ l. let q = times_least s x n t l in omega arith) (eq-or-lt_of_le {n = t} {m = n} (omega arith))

abbrev pub pick : Bool → (a b : ℕ) → ℕ
pick e a b = elim e [ true ↦ a | false ↦ b ]

-- the parent that is found is the term that has x as a child
pub parent_is : (s : List ℕ) (x n t : ℕ) → times_below s x n ≡ 1 → t < n → 0 < times_in s x t → parent s x n ≡ t
parent_is s x zero t p h g = absurd (omega arith)
parent_is s x (suc n) t p h g =
    ⊎_elim
    (λ e. let q = ap (times_in s x) e in ap (λ (b : Bool). pick b (parent s x n) n) (ne_eqb (times_in s x n) 0 (λ z. omega arith)) ∙ sym e)
    (λ l. let q = times_least s x n t l in
    ap (λ (b : Bool). pick b (parent s x n) n) (eq-eqb (times_in s x n) 0 (omega arith)) ∙ parent_is s x n t (omega arith) l g)
    (eq-or-lt_of_le {n = t} {m = n} (omega arith))

-- ---- nesting
more : (b x y : Bool) → (x ≡ true → y ≡ true) → or_else b (λ _. x) ≡ true → or_else b (λ _. y) ≡ true
more true x y h p = refl
more false x y h p = h p

pub nested_more : (s : List ℕ) (k t : ℕ) → nested_in s k t ≡ true → nested_in s (suc k) t ≡ true
nested_more s zero t h = absurd (false≢true h)
nested_more s (suc k) t h = more (eqb t (root s)) (nested_in s k (parent s t (terms s))) (nested_in s (suc k) (parent s t (terms s)))
    (nested_more s k (parent s t (terms s))) h

nested_add : (s : List ℕ) (d k t : ℕ) → nested_in s k t ≡ true → nested_in s (d + k) t ≡ true
nested_add s zero k t h = ap (λ (m : ℕ). nested_in s m t) {x = 0 + k} {y = k} (omega arith) ∙ h
nested_add s (suc d) k t h = ap (λ (m : ℕ). nested_in s m t) {x = suc d + k} {y = suc (d + k)} (omega arith) ∙ nested_more s (d + k) t (nested_add s d k t h)

-- a term that is not nested in k levels is not in the last of 32
nested_lt : (s : List ℕ) (k t : ℕ) → nested_in s max_nesting t ≡ true → nested_in s k t ≡ false → k < max_nesting
nested_lt s k t w h = go (dec_lt k max_nesting)
  where
    go : Dec (k < max_nesting) → k < max_nesting
    go (yes l) = l
    go (no n) = absurd (true≢false (sym (nested_add s (k - max_nesting) max_nesting t w)
        ∙ ap (λ (m : ℕ). nested_in s m t) {x = k - max_nesting + max_nesting} {y = k} (omega arith) ∙ h))

counts_self : (y : ℕ) → child_count child y y ≡ 1
counts_self y = ap (λ (e : Bool). cond e 1 0) (eq-eqb y y refl)

max_le_of : (a b k : ℕ) → suc a + k ≤ max_nesting → suc b + k ≤ max_nesting → suc (max a b) + k ≤ max_nesting
max_le_of a b k h g = let m : max a b ≤ max_nesting - 1 - k = max-le (omega arith) (omega arith) in omega arith

module _ (s : List ℕ) (w : WellFormed s) where
  -- a child is one deeper
  deeper : (t c k : ℕ) → t < terms s → c < t → 0 < times_in s c t → nested_in s (suc k) c ≡ nested_in s k t
  deeper t c k l h g =
      ap (λ (b : Bool). or_else b (λ _. nested_in s k (parent s c (terms s)))) (ne_eqb c (root s) (λ z. omega arith))
      ∙ ap (nested_in s k) (parent_is s c (terms s) t (one_parent s w c (omega arith)) l g)

  module _ (t k : ℕ) (room : k < max_nesting) where
    -- the children of a record are terms that fit one level deeper
    record ChildrenFit (f : Format) (a b c : ℕ) : Type 0 where
      fits : (y : ℕ) → y < t → 0 < child_count f.first a y + child_count f.second b y + child_count f.third c y → suc (height (tree s y)) + k ≤ max_nesting

    two : (a b : ℕ) → suc (height (tree s a)) + k ≤ max_nesting → suc (height (tree s b)) + k ≤ max_nesting
        → 1 + max (height (tree s a)) (height (tree s b)) + k ≤ max_nesting
    two a b p q = omega (arith, max_le_of (height (tree s a)) (height (tree s b)) k p q)

    three : (a b c : ℕ) → suc (height (tree s a)) + k ≤ max_nesting → suc (height (tree s b)) + k ≤ max_nesting → suc (height (tree s c)) + k ≤ max_nesting
        → 1 + max (height (tree s a)) (max (height (tree s b)) (height (tree s c))) + k ≤ max_nesting
    three a b c p q r =
        omega (arith, max_le_of (height (tree s a)) (max (height (tree s b)) (height (tree s c))) k p (max_le_of (height (tree s b)) (height (tree s c)) k q r))

    node_height : (K : Kind) (x a b c : ℕ) → Below (format K) t a b c → ChildrenFit (format K) a b c
        → height (node (guard_of s) K t x a b c (tree s)) + k ≤ max_nesting
    node_height Boolean x a b c u h = omega arith
    node_height Number x a b c u h = omega arith
    node_height Variable x a b c u h = omega arith
    node_height Function x a b c u h = omega (arith, h.fits b (u.second_below refl) (omega (arith, counts_self b)))
    node_height Letrec x a b c u h = two b c (h.fits b (u.second_below refl) (omega (arith, counts_self b)))
        (h.fits c (u.third_below refl) (omega (arith, counts_self c)))
    node_height Call x a b c u h = two a b (h.fits a (u.first_below refl) (omega (arith, counts_self a)))
        (h.fits b (u.second_below refl) (omega (arith, counts_self b)))
    node_height If x a b c u h =
        three a b c (h.fits a (u.first_below refl) (omega (arith, counts_self a))) (h.fits b (u.second_below refl) (omega (arith, counts_self b)))
        (h.fits c (u.third_below refl) (omega (arith, counts_self c)))
    node_height Check x a b c u h = omega (arith, h.fits a (u.first_below refl) (omega (arith, counts_self a)))
    node_height Enable x a b c u h = omega (arith, h.fits a (u.first_below refl) (omega (arith, counts_self a)))
    node_height Sign x a b c u h = omega (arith, h.fits a (u.first_below refl) (omega (arith, counts_self a)))
    node_height Test x a b c u h = two a b (h.fits a (u.first_below refl) (omega (arith, counts_self a)))
        (h.fits b (u.second_below refl) (omega (arith, counts_self b)))
    node_height Sum x a b c u h = two a b (h.fits a (u.first_below refl) (omega (arith, counts_self a)))
        (h.fits b (u.second_below refl) (omega (arith, counts_self b)))
    node_height Difference x a b c u h = two a b (h.fits a (u.first_below refl) (omega (arith, counts_self a)))
        (h.fits b (u.second_below refl) (omega (arith, counts_self b)))
    node_height Less x a b c u h = two a b (h.fits a (u.first_below refl) (omega (arith, counts_self a)))
        (h.fits b (u.second_below refl) (omega (arith, counts_self b)))
    node_height Post x a b c u h = omega (arith, h.fits a (u.first_below refl) (omega (arith, counts_self a)))

  -- below a term that is not nested in k levels there is room for 32 − k
  tree_height : (d t k : ℕ) → t < d → t < terms s → nested_in s k t ≡ false → height (tree s t) + k ≤ max_nesting
  tree_height zero t k u l h = absurd (omega arith)
  tree_height (suc d) t k u l h =
      subst (λ (c : Term). height c + k ≤ max_nesting) (sym (tree_node s w t l))
      (node_height t k (nested_lt s k t (w.nested_ok t l) h) (kind_of (kind_byte s t)) (small s t) (first s t) (second s t) (third s t) (below s w t l)
      (record { fits = λ y m g. omega (arith, tree_height d y (suc k) (omega arith) (omega arith) (deeper t y k l m g ∙ h)) }))

  -- "Nesting is at most 32, the root counting 1."
  pub program_height : height (program s) ≤ max_nesting
  program_height = omega (arith, tree_height (terms s) (root s) 0 (root_lower s w) (root_lower s w) refl)
