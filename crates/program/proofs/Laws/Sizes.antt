-- The tree of term t has at most t + 1 terms, since each term stands once as a child: all trees up to t, each counted with its children's, are t + 1 more
-- than the children's trees, and these are trees below t, each at most once.
use Rattle.std.specs.Prelude.{Bool, true, false, cond, ◌&&◌, List, ◌≡◌, refl, ℕ, zero, suc, ◌+◌, ◌*◌, ◌<◌, ◌≤◌, eqb}
use Rattle.std.proofs.Math.Option.{Option}
use Rattle.std.proofs.Common.{⊎_elim, ap, ◌∙◌, add-mul, eq-or-lt_of_le, mul-le-mul_right, arith, eq-eqb, ne_eqb}
use Rattle.program.specs.Limits.{max_terms}
use Rattle.program.specs.Layout.{terms, guard_of, root, kind_byte, small, first, second, third}
use Rattle.program.specs.Formats.{is_child, Format, Kind, Boolean, Number, Variable, Function, Letrec, Call, If, Check, Enable, Sign, Test, Sum, Difference, Less, Post, kind_of, format}
use Rattle.program.specs.Terms.{Term, node, tree, program, size, Every}
use Rattle.program.specs.Decoding.{format_at, child_count, times_in, times_below}
use Rattle.program.proofs.Laws.Readable.{WellFormed}
use Rattle.program.proofs.Laws.Trees.{Below, below, tree_node, program_every, root_lower}
use Rattle.program.proofs.Laws.Nesting.{one_parent}

-- ---- sums over the first so many terms
abbrev total : (ℕ → ℕ) → (count : ℕ) → ℕ
total f zero = 0
total f (suc j) = f j + total f j

total_same : (f g : ℕ → ℕ) (n : ℕ) → ((j : ℕ) → j < n → f j ≡ g j) → total f n ≡ total g n
total_same f g zero h = refl
total_same f g (suc n) h = λ i. h n (omega arith) i + total_same f g n (λ j l. h j (omega arith)) i

total_add : (f g : ℕ → ℕ) (n : ℕ) → total (λ j. f j + g j) n ≡ total f n + total g n
total_add f g zero = refl
total_add f g (suc n) = omega (arith, total_add f g n)

total_le : (f g : ℕ → ℕ) (n : ℕ) → ((j : ℕ) → j < n → f j ≤ g j) → total f n ≤ total g n
total_le f g zero h = omega arith
total_le f g (suc n) h = omega (arith, h n (omega arith), total_le f g n (λ j l. h j (omega arith)))

abbrev one : Bool → ℕ
one b = cond b 1 0

-- ---- what the parts of a record that are children add
module _ (f : ℕ → ℕ) where
  abbrev part : Bool → (value : ℕ) → ℕ
  part b v = cond b (f v) 0

  abbrev pub of_children : Format → (first second third : ℕ) → ℕ
  of_children k a b c = part (is_child k.first) a + part (is_child k.second) b + part (is_child k.third) c

  none_chosen : (n : ℕ) → total (λ j. 0 * f j) n ≡ 0
  none_chosen zero = refl
  none_chosen (suc n) = omega (arith, none_chosen n)

  none_past : (v n : ℕ) → n ≤ v → total (λ j. one (eqb v j) * f j) n ≡ 0
  none_past v n h = total_same _ _ n (λ j l. ap (λ (b : Bool). one b * f j) (ne_eqb v j (λ e. omega (arith, e)))) ∙ none_chosen n

  one_chosen : (v n : ℕ) → v < n → total (λ j. one (eqb v j) * f j) n ≡ f v
  one_chosen v zero h = absurd (omega arith)
  one_chosen v (suc n) h =
      ⊎_elim
      (λ e. let z : one (eqb v n) * f n ≡ 1 * f n = ap (λ (b : Bool). one b * f n) (eq-eqb v n e) in
      omega (arith, z, ap f e, none_past v n (omega arith)))
      (λ l. let z : one (eqb v n) * f n ≡ 0 * f n = ap (λ (b : Bool). one b * f n) (ne_eqb v n (λ e. omega (arith, e))) in
      omega (arith, z, one_chosen v n l))
      (eq-or-lt_of_le {n = v} {m = n} (omega arith))

  part_chosen : (b : Bool) (v n : ℕ) → (b ≡ true → v < n) → total (λ j. one (b && eqb v j) * f j) n ≡ part b v
  part_chosen true v n h = one_chosen v n (h refl)
  part_chosen false v n h = none_chosen n

  children_chosen : (k : Format) (t a b c n : ℕ) → Below k t a b c → t ≤ n
      → total (λ j. (child_count k.first a j + child_count k.second b j + child_count k.third c j) * f j) n ≡ of_children k a b c
  children_chosen k t a b c n w l =
      let x : ℕ → ℕ = λ j. child_count k.first a j * f j in
      let y : ℕ → ℕ = λ j. child_count k.second b j * f j in
      let z : ℕ → ℕ = λ j. child_count k.third c j * f j in
      total_same _ (λ j. x j + y j + z j) n (λ j l.
      add-mul (child_count k.first a j + child_count k.second b j) (child_count k.third c j) (f j)
      ∙ ap (λ (m : ℕ). m + z j) (add-mul (child_count k.first a j) (child_count k.second b j) (f j)))
      ∙ total_add (λ j. x j + y j) z n ∙ ap (λ (m : ℕ). m + total z n) (total_add x y n)
      ∙ λ i. part_chosen (is_child k.first) a n (λ e. omega (arith, w.first_below e)) i
      + part_chosen (is_child k.second) b n (λ e. omega (arith, w.second_below e)) i
      + part_chosen (is_child k.third) c n (λ e. omega (arith, w.third_below e)) i

-- ---- the size of a term by its children's
node_size : (G : ℕ → Option ℕ) (k : Kind) (t x a b c : ℕ) (f : ℕ → Term) → size (node G k t x a b c f) ≡ suc (of_children (λ y. size (f y)) (format k) a b c)
node_size G Boolean t x a b c f = refl
node_size G Number t x a b c f = refl
node_size G Variable t x a b c f = refl
node_size G Function t x a b c f = omega arith
node_size G Letrec t x a b c f = omega arith
node_size G Call t x a b c f = omega arith
node_size G If t x a b c f = omega arith
node_size G Check t x a b c f = omega arith
node_size G Enable t x a b c f = omega arith
node_size G Sign t x a b c f = omega arith
node_size G Test t x a b c f = omega arith
node_size G Sum t x a b c f = omega arith
node_size G Difference t x a b c f = omega arith
node_size G Less t x a b c f = omega arith
node_size G Post t x a b c f = omega arith

-- ---- how often a term stands as a child
not_counted : (b : Bool) (v x : ℕ) → (b ≡ true → v < x) → one (b && eqb v x) ≡ 0
not_counted true v x h = ap one (ne_eqb v x (λ e. omega (arith, h refl)))
not_counted false v x h = refl

times_fewer : (s : List ℕ) (x m n : ℕ) → m ≤ n → times_below s x m ≤ times_below s x n
times_fewer s x m zero h = let q = ap (times_below s x) {x = m} {y = 0} (omega arith) in omega arith
times_fewer s x m (suc n) h =
    ⊎_elim (λ e. let q = ap (times_below s x) e in omega arith) (λ l. let q = times_fewer s x m n (omega arith) in omega arith)
    (eq-or-lt_of_le {n = m} {m = suc n} h)

module _ (s : List ℕ) (w : WellFormed s) where
  abbrev size_at : (t : ℕ) → ℕ
  size_at t = size (tree s t)

  abbrev pub children_size : (t : ℕ) → ℕ
  children_size t = of_children size_at (format_at s t) (first s t) (second s t) (third s t)

  -- a term and its children's trees
  pub tree_size_is : (t : ℕ) → t < terms s → size (tree s t) ≡ suc (children_size t)
  tree_size_is t l =
      ap size (tree_node s w t l)
      ∙ node_size (guard_of s) (kind_of (kind_byte s t)) t (small s t) (first s t) (second s t) (third s t) (tree s)

  -- no term up to t has t as a child
  pub not_below : (t m : ℕ) → m ≤ terms s → m ≤ suc t → times_below s t m ≡ 0
  not_below t zero l h = refl
  not_below t (suc m) l h =
      let b = below s w m (omega arith) in
      let x = not_counted (is_child (format_at s m).first) (first s m) t (λ e. omega (arith, b.first_below e)) in
      let y = not_counted (is_child (format_at s m).second) (second s m) t (λ e. omega (arith, b.second_below e)) in
      let z = not_counted (is_child (format_at s m).third) (third s m) t (λ e. omega (arith, b.third_below e)) in
      omega (arith, x, y, z, not_below t m (omega arith) (omega arith))

  -- the trees of the first m terms are m more than the trees of their children
  all_trees : (m : ℕ) → m ≤ terms s → total size_at m ≡ m + total children_size m
  all_trees zero l = refl
  all_trees (suc m) l = omega (arith, tree_size_is m (omega arith), all_trees m (omega arith))

  all_children : (m n : ℕ) → m ≤ n → m ≤ terms s → total (λ j. times_below s j m * size_at j) n ≡ total children_size m
  all_children zero n l h = none_chosen size_at n
  all_children (suc m) n l h =
      total_same _ (λ j. times_in s j m * size_at j + times_below s j m * size_at j) n (λ j g. add-mul (times_in s j m) (times_below s j m) (size_at j))
      ∙ total_add (λ j. times_in s j m * size_at j) (λ j. times_below s j m * size_at j) n
      ∙ λ i. children_chosen size_at (format_at s m) m (first s m) (second s m) (third s m) n (below s w m (omega arith)) (omega arith) i
      + all_children m n (omega arith) (omega arith) i

  pub tree_size : (t : ℕ) → t ≤ root s → size (tree s t) ≤ suc t
  tree_size t l =
      let in_table : t < terms s = omega (arith, root_lower s w) in
      let none : times_below s t (suc t) * size_at t ≡ 0 * size_at t =
      ap (λ (n : ℕ). n * size_at t) (not_below t (suc t) (omega arith) (omega arith)) in
      let once : (j : ℕ) → j < t → times_below s j (suc t) * size_at j ≤ size_at j = λ j h.
      let few : times_below s j (suc t) ≤ 1 = omega (arith, times_fewer s j (suc t) (terms s) (omega arith), one_parent s w j (omega arith)) in
      omega (arith, mul-le-mul_right (size_at j) few) in
      omega (
        arith,
        all_trees (suc t) (omega arith),
        all_children (suc t) (suc t) (omega arith) (omega arith),
        none,
        total_le (λ j. times_below s j (suc t) * size_at j) size_at t once,
      )

  -- "1 to 1,024 terms"
  pub size_most : (t : ℕ) → t < terms s → size (tree s t) ≤ max_terms
  size_most t l = omega (arith, tree_size t (omega arith), w.terms_most)

  pub sizes_most : Every (λ c. size c ≤ max_terms) (program s)
  sizes_most = program_every s w (λ c. size c ≤ max_terms) size_most
