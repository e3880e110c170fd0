-- The tree of a readable sheet: children are lower, parts in range, bodies and the root signed.
use Rattle.std.specs.Prelude.{Bool, true, false, not, cond, ◌||◌, List, ◌≡◌, refl, ℕ, zero, suc, ◌<◌, ◌≤◌, eqb}
use Rattle.std.proofs.lemmas.Bool.{false≢true}
use Rattle.std.proofs.Math.Option.{Option}
use Rattle.std.proofs.Common.{sym, ap, subst, le_refl, arith, ltb-true, leb-true, eqb-true, eq-eqb}
use Rattle.privileges.specs.Booleans.{and_left, and_right}
use Rattle.program.specs.Layout.{terms, guard_of, root, kind_byte, small, first, second, third, Types, types_of}
use Rattle.program.specs.Formats.{Part, unused, flag, any_number, privilege, principal, channel, function_type, child, body_child, is_child, Format, Kind, Boolean, Number, Variable, Function, Letrec, Call, If, Check, Enable, Sign, Test, Sum, Difference, Less, Post, kind_of, format}
use Rattle.program.specs.Terms.{Term, boolean, number, variable, function, letrec, call, if, check, enable, sign, test, binary, post, sum, difference, less, node, tree_to, tree, program, Every}
use Rattle.program.specs.Decoding.{part_ok, format_at, term_ok, times_below, is_sign, signed_body}
use Rattle.program.proofs.Laws.Readable.{WellFormed}

-- ---- the parts of a record
pub record Parts (s : List ℕ) (t : ℕ) : Type 0 where
  pub kind_ok : kind_byte s t ≤ 14
  pub small_ok : part_ok s t (format_at s t).small (small s t) ≡ true
  pub first_ok : part_ok s t (format_at s t).first (first s t) ≡ true
  pub second_ok : part_ok s t (format_at s t).second (second s t) ≡ true
  pub third_ok : part_ok s t (format_at s t).third (third s t) ≡ true

pub parts_of : (s : List ℕ) (t : ℕ) → term_ok s t ≡ true → Parts s t
parts_of s t h = record {
  kind_ok = leb-true (kind_byte s t) 14 (search (and_left, and_right));
  small_ok = search (and_left, and_right);
  first_ok = search (and_left, and_right);
  second_ok = search (and_left, and_right);
  third_ok = search (and_left, and_right);
}

pub parts : (s : List ℕ) → WellFormed s → (t : ℕ) → t < terms s → Parts s t
parts s w t l = parts_of s t (w.term_ok_holds t l)

-- ---- children are lower than their parent
child_lower : (s : List ℕ) (t : ℕ) (p : Part) (x : ℕ) → part_ok s t p x ≡ true → is_child p ≡ true → x < t
child_lower s t unused x h c = absurd (false≢true c)
child_lower s t flag x h c = absurd (false≢true c)
child_lower s t any_number x h c = absurd (false≢true c)
child_lower s t privilege x h c = absurd (false≢true c)
child_lower s t principal x h c = absurd (false≢true c)
child_lower s t channel x h c = absurd (false≢true c)
child_lower s t function_type x h c = absurd (false≢true c)
child_lower s t child x h c = ltb-true x t h
child_lower s t body_child x h c = ltb-true x t h

pub record Below (f : Format) (t a b c : ℕ) : Type 0 where
  pub first_below : is_child f.first ≡ true → a < t
  pub second_below : is_child f.second ≡ true → b < t
  pub third_below : is_child f.third ≡ true → c < t

pub below_of : (s : List ℕ) (t : ℕ) → term_ok s t ≡ true → Below (format_at s t) t (first s t) (second s t) (third s t)
below_of s t h =
    let p = parts_of s t h in
    record {
      first_below = child_lower s t (format_at s t).first (first s t) p.first_ok;
      second_below = child_lower s t (format_at s t).second (second s t) p.second_ok;
      third_below = child_lower s t (format_at s t).third (third s t) p.third_ok;
    }

pub below : (s : List ℕ) → WellFormed s → (t : ℕ) → t < terms s → Below (format_at s t) t (first s t) (second s t) (third s t)
below s w t l = below_of s t (w.term_ok_holds t l)

-- ---- a term of the tree is the node of its record over its children's trees
node_same : (G : ℕ → Option ℕ) (k : Kind) (t x a b c : ℕ) (f g : ℕ → Term) → Below (format k) t a b c → ((y : ℕ) → y < t → f y ≡ g y)
    → node G k t x a b c f ≡ node G k t x a b c g
node_same G Boolean t x a b c f g w h = refl
node_same G Number t x a b c f g w h = refl
node_same G Variable t x a b c f g w h = refl
node_same G Function t x a b c f g w h = λ i. function t a (h b (w.second_below refl) i)
node_same G Letrec t x a b c f g w h = λ i. letrec t a (h b (w.second_below refl) i) (h c (w.third_below refl) i)
node_same G Call t x a b c f g w h = λ i. call t (h a (w.first_below refl) i) (h b (w.second_below refl) i)
node_same G If t x a b c f g w h = λ i. if t (h a (w.first_below refl) i) (h b (w.second_below refl) i) (h c (w.third_below refl) i)
node_same G Check t x a b c f g w h = λ i. check t x (h a (w.first_below refl) i)
node_same G Enable t x a b c f g w h = λ i. enable t x (h a (w.first_below refl) i)
node_same G Sign t x a b c f g w h = λ i. sign t x (h a (w.first_below refl) i)
node_same G Test t x a b c f g w h = λ i. test t x (h a (w.first_below refl) i) (h b (w.second_below refl) i)
node_same G Sum t x a b c f g w h = λ i. binary t sum (h a (w.first_below refl) i) (h b (w.second_below refl) i)
node_same G Difference t x a b c f g w h = λ i. binary t difference (h a (w.first_below refl) i) (h b (w.second_below refl) i)
node_same G Less t x a b c f g w h = λ i. binary t less (h a (w.first_below refl) i) (h b (w.second_below refl) i)
node_same G Post t x a b c f g w h = λ i. post t x (G x) (h a (w.first_below refl) i)

-- the same at every depth that reaches all of it
pub tree_depth : (s : List ℕ) → WellFormed s → (j k t : ℕ) → t < terms s → t < j → t < k → tree_to s j t ≡ tree_to s k t
tree_depth s w zero k t l p q = absurd (omega arith)
tree_depth s w (suc j) zero t l p q = absurd (omega arith)
tree_depth s w (suc j) (suc k) t l p q =
    node_same (guard_of s) (kind_of (kind_byte s t)) t (small s t) (first s t) (second s t) (third s t) (λ y. tree_to s j y)
    (λ y. tree_to s k y) (below s w t l)
    (λ y h. tree_depth s w j k y (omega arith) (omega arith) (omega arith))

pub tree_node : (s : List ℕ) → WellFormed s → (t : ℕ) → t < terms s
    → tree s t ≡ node (guard_of s) (kind_of (kind_byte s t)) t (small s t) (first s t) (second s t) (third s t) (tree s)
tree_node s w t l =
    node_same (guard_of s) (kind_of (kind_byte s t)) t (small s t) (first s t) (second s t) (third s t) (λ y. tree_to s t y) (tree s) (below s w t l)
    (λ y h. tree_depth s w t (suc y) y (omega arith) h (omega arith))

-- ---- what every term of a tree has, the whole has
pub every_here : (Q : Term → Type 0) (c : Term) → Every Q c → Q c
every_here Q (boolean at b) h = h
every_here Q (number at n) h = h
every_here Q (variable at i) h = h
every_here Q (function at ty body) h = h.0
every_here Q (letrec at ty body rest) h = h.0
every_here Q (call at f a) h = h.0
every_here Q (if at c y n) h = h.0
every_here Q (check at p c) h = h.0
every_here Q (enable at p c) h = h.0
every_here Q (sign at n c) h = h.0
every_here Q (test at p y n) h = h.0
every_here Q (binary at op a b) h = h.0
every_here Q (post at ch g c) h = h.0

-- ---- what each term has, every term of a tree has
pub every_any : {Q : Term → Type 0} → ((c : Term) → Q c) → (c : Term) → Every Q c
every_any q (boolean at b) = q (boolean at b)
every_any q (number at n) = q (number at n)
every_any q (variable at i) = q (variable at i)
every_any q (function at ty body) = (q (function at ty body), every_any q body)
every_any q (letrec at ty body rest) = (q (letrec at ty body rest), every_any q body, every_any q rest)
every_any q (call at f a) = (q (call at f a), every_any q f, every_any q a)
every_any q (if at c y n) = (q (if at c y n), every_any q c, every_any q y, every_any q n)
every_any q (check at p c) = (q (check at p c), every_any q c)
every_any q (enable at p c) = (q (enable at p c), every_any q c)
every_any q (sign at n c) = (q (sign at n c), every_any q c)
every_any q (test at p y n) = (q (test at p y n), every_any q y, every_any q n)
every_any q (binary at op a b) = (q (binary at op a b), every_any q a, every_any q b)
every_any q (post at ch g c) = (q (post at ch g c), every_any q c)

-- in a sheet it is enough that the tree of each number has it, or of each number below a bound for the trees of these
module _ (s : List ℕ) (w : WellFormed s) (Q : Term → Type 0) (n : ℕ) (few : n ≤ terms s) (each : (t : ℕ) → t < n → Q (tree s t)) where
  node_every : (G : ℕ → Option ℕ) (k : Kind) (t x a b c : ℕ) (f : ℕ → Term) → Below (format k) t a b c → ((y : ℕ) → y < t → Every Q (f y))
      → Q (node G k t x a b c f) → Every Q (node G k t x a b c f)
  node_every G Boolean t x a b c f v h q = q
  node_every G Number t x a b c f v h q = q
  node_every G Variable t x a b c f v h q = q
  node_every G Function t x a b c f v h q = (q, h b (v.second_below refl))
  node_every G Letrec t x a b c f v h q = (q, h b (v.second_below refl), h c (v.third_below refl))
  node_every G Call t x a b c f v h q = (q, h a (v.first_below refl), h b (v.second_below refl))
  node_every G If t x a b c f v h q = (q, h a (v.first_below refl), h b (v.second_below refl), h c (v.third_below refl))
  node_every G Check t x a b c f v h q = (q, h a (v.first_below refl))
  node_every G Enable t x a b c f v h q = (q, h a (v.first_below refl))
  node_every G Sign t x a b c f v h q = (q, h a (v.first_below refl))
  node_every G Test t x a b c f v h q = (q, h a (v.first_below refl), h b (v.second_below refl))
  node_every G Sum t x a b c f v h q = (q, h a (v.first_below refl), h b (v.second_below refl))
  node_every G Difference t x a b c f v h q = (q, h a (v.first_below refl), h b (v.second_below refl))
  node_every G Less t x a b c f v h q = (q, h a (v.first_below refl), h b (v.second_below refl))
  node_every G Post t x a b c f v h q = (q, h a (v.first_below refl))

  every_below : (k t : ℕ) → t < n → t < k → Every Q (tree s t)
  every_below zero t l h = absurd (omega arith)
  every_below (suc k) t l h =
      let inside : t < terms s = omega (arith, few, l) in
      subst (Every Q) (sym (tree_node s w t inside))
      (node_every (guard_of s) (kind_of (kind_byte s t)) t (small s t) (first s t) (second s t) (third s t) (tree s) (below s w t inside)
      (λ y g. every_below k y (omega arith) (omega arith)) (subst Q (tree_node s w t inside) (each t l)))

  pub tree_every : (t : ℕ) → t < n → Every Q (tree s t)
  tree_every t l = every_below (suc t) t l (omega arith)

pub program_every : (s : List ℕ) → WellFormed s → (Q : Term → Type 0) → ((t : ℕ) → t < terms s → Q (tree s t)) → Every Q (program s)
program_every s w Q each = tree_every s w Q (terms s) (le_refl (terms s)) each (root s) (omega (arith, w.terms_least))

-- ---- 003's standard expressions (its Definition 2.1): the body of every function is signed. Here its type is also a function type.
pub data Signed : Term → Type 0 where
  signed : {at n : ℕ} {c : Term} → Signed (sign at n c)

abbrev pub Standard : Types → Term → Type 0
Standard T (boolean at b) = Unit {0}
Standard T (number at n) = Unit {0}
Standard T (variable at i) = Unit {0}
Standard T (function at ty body) = (T.is_fun ty ≡ true) × Signed body × Standard T body
Standard T (letrec at ty body rest) = (T.is_fun ty ≡ true) × Signed body × Standard T body × Standard T rest
Standard T (call at f a) = Standard T f × Standard T a
Standard T (if at c y n) = Standard T c × Standard T y × Standard T n
Standard T (check at p c) = Standard T c
Standard T (enable at p c) = Standard T c
Standard T (sign at n c) = Standard T c
Standard T (test at p y n) = Standard T y × Standard T n
Standard T (binary at op a b) = Standard T a × Standard T b
Standard T (post at ch g c) = Standard T c

-- a sign's record gives a sign
sign_node : (G : ℕ → Option ℕ) (k : Kind) (t x a b c : ℕ) (f : ℕ → Term) → k ≡ Sign → Signed (node G k t x a b c f)
sign_node G k t x a b c f e = subst (λ (z : Kind). Signed (node G z t x a b c f)) (sym e) signed

pub kind_sign : (s : List ℕ) (t : ℕ) → is_sign s t ≡ true → kind_of (kind_byte s t) ≡ Sign
kind_sign s t h = ap kind_of (eqb-true (kind_byte s t) 9 h)

pub tree_signed : (s : List ℕ) (k t : ℕ) → is_sign s t ≡ true → Signed (tree_to s (suc k) t)
tree_signed s k t h = sign_node (guard_of s) (kind_of (kind_byte s t)) t (small s t) (first s t) (second s t) (third s t) (λ x. tree_to s k x) (kind_sign s t h)

-- a record over standard terms gives a standard term, if its function type is one and its body is signed
module _ (T : Types) (G : ℕ → Option ℕ) (f : ℕ → Term) (t : ℕ) (std : (y : ℕ) → y < t → Standard T (f y)) where
  node_standard : (k : Kind) (x a b c : ℕ) → Below (format k) t a b c → ((format k).first ≡ function_type → T.is_fun a ≡ true)
      → ((format k).second ≡ body_child → Signed (f b)) → Standard T (node G k t x a b c f)
  node_standard Boolean x a b c w ty sg = tt
  node_standard Number x a b c w ty sg = tt
  node_standard Variable x a b c w ty sg = tt
  node_standard Function x a b c w ty sg = (ty refl, sg refl, std b (w.second_below refl))
  node_standard Letrec x a b c w ty sg = (ty refl, sg refl, std b (w.second_below refl), std c (w.third_below refl))
  node_standard Call x a b c w ty sg = (std a (w.first_below refl), std b (w.second_below refl))
  node_standard If x a b c w ty sg = (std a (w.first_below refl), std b (w.second_below refl), std c (w.third_below refl))
  node_standard Check x a b c w ty sg = std a (w.first_below refl)
  node_standard Enable x a b c w ty sg = std a (w.first_below refl)
  node_standard Sign x a b c w ty sg = std a (w.first_below refl)
  node_standard Test x a b c w ty sg = (std a (w.first_below refl), std b (w.second_below refl))
  node_standard Sum x a b c w ty sg = (std a (w.first_below refl), std b (w.second_below refl))
  node_standard Difference x a b c w ty sg = (std a (w.first_below refl), std b (w.second_below refl))
  node_standard Less x a b c w ty sg = (std a (w.first_below refl), std b (w.second_below refl))
  node_standard Post x a b c w ty sg = std a (w.first_below refl)

-- ---- parents, bodies and the root
pub record PlacementOk (s : List ℕ) (t : ℕ) : Type 0 where
  pub times : times_below s t (terms s) ≡ cond (eqb t (root s)) 0 1
  pub body_signed : signed_body s (format_at s t).second (second s t) ≡ true
  pub root_signed : (not (eqb t (root s)) || is_sign s t) ≡ true

pub placed : (s : List ℕ) → WellFormed s → (t : ℕ) → t < terms s → PlacementOk s t
placed s w t l =
    let h = w.placed_ok_holds t l in
    record {
      times = eqb-true (times_below s t (terms s)) (cond (eqb t (root s)) 0 1) (search (and_left, and_right));
      body_signed = search (and_left, and_right);
      root_signed = search (and_left, and_right);
    }

body_sign : (s : List ℕ) (p : Part) (x : ℕ) → signed_body s p x ≡ true → p ≡ body_child → is_sign s x ≡ true
body_sign s p x h e = subst (λ (q : Part). signed_body s q x ≡ true) e h

type_function : (s : List ℕ) (t : ℕ) (p : Part) (x : ℕ) → part_ok s t p x ≡ true → p ≡ function_type → (types_of s).is_fun x ≡ true
type_function s t p x h e = subst (λ (q : Part). part_ok s t q x ≡ true) e h

tree_standard : (s : List ℕ) → WellFormed s → (k t : ℕ) → t < terms s → t < k → Standard (types_of s) (tree_to s k t)
tree_standard s w zero t l h = absurd (omega arith)
tree_standard s w (suc k) t l h =
    node_standard (types_of s) (guard_of s) (λ y. tree_to s k y) t (λ y g. tree_standard s w k y (omega arith) (omega arith)) (kind_of (kind_byte s t))
    (small s t) (first s t) (second s t) (third s t)
    (below s w t l) (type_function s t (format_at s t).first (first s t) (parts s w t l).first_ok)
    (λ e. deep k (omega (arith, (below s w t l).second_below (ap is_child e))) (body_sign s (format_at s t).second (second s t) (placed s w t l).body_signed e))
  where
    deep : (k : ℕ) → second s t < k → is_sign s (second s t) ≡ true → Signed (tree_to s k (second s t))
    deep zero g i = absurd (omega arith)
    deep (suc j) g i = tree_signed s j (second s t) i

or_not : (a b : Bool) → a ≡ true → (not a || b) ≡ true → b ≡ true
or_not true b e h = h
or_not false b e h = absurd (false≢true e)

pub root_lower : (s : List ℕ) → WellFormed s → root s < terms s
root_lower s w = omega (arith, w.terms_least)

-- every body of the program is signed, and so is its root
pub program_standard : (s : List ℕ) → WellFormed s → Standard (types_of s) (program s)
program_standard s w = tree_standard s w (suc (root s)) (root s) (root_lower s w) (omega arith)

pub program_signed : (s : List ℕ) → WellFormed s → Signed (program s)
program_signed s w =
    tree_signed s (root s) (root s)
    (or_not (eqb (root s) (root s)) (is_sign s (root s)) (eq-eqb (root s) (root s) refl) (placed s w (root s) (root_lower s w)).root_signed)
