-- A sheet's terms as a tree: 01's table under "The kind byte picks one of fifteen terms", by each record's parts. "The last term is the root."
use Rattle.std.specs.Prelude.{Bool, false, List, ◌≡◌, ℕ, zero, suc, ◌+◌, eqb}
use Rattle.std.proofs.Math.Option.{Option, none, some}
use Rattle.program.specs.Layout.{kind_byte, small, first, second, third, guard_of, root}
use Rattle.program.specs.Formats.{Kind, Boolean, Number, Variable, Function, Letrec, Call, If, Check, Enable, Sign, Test, Sum, Difference, Less, Post, kind_of}

-- the operations on two numbers
pub data Op : Type 0 where
  sum difference less : Op

-- Each term has its own number, `at`: a stop or a fault tells it. A variable is the count of bindings between it and its own. A post has its channel,
-- and the privilege that guards it, if there is one.
pub data Term : Type 0 where
  boolean : (at : ℕ) (b : Bool) → Term
  number : (at n : ℕ) → Term
  variable : (at i : ℕ) → Term
  function : (at ty : ℕ) (body : Term) → Term
  letrec : (at ty : ℕ) (body rest : Term) → Term
  call : (at : ℕ) (fun arg : Term) → Term
  if : (at : ℕ) (cond then else : Term) → Term
  check : (at p : ℕ) (inner : Term) → Term
  enable : (at p : ℕ) (inner : Term) → Term
  sign : (at n : ℕ) (inner : Term) → Term
  test : (at p : ℕ) (then else : Term) → Term
  binary : (at : ℕ) (op : Op) (left right : Term) → Term
  post : (at channel : ℕ) (guard : Option ℕ) (inner : Term) → Term

-- one term, from the channels' guards, its kind, number and parts, and the terms that its children's numbers stand for
abbrev pub node : (guards : ℕ → Option ℕ) → Kind → (at small first second third : ℕ) → (ℕ → Term) → Term
node guards Boolean at x a b c term = boolean at (eqb x 1)
node guards Number at x a b c term = number at a
node guards Variable at x a b c term = variable at a
node guards Function at x a b c term = function at a (term b)
node guards Letrec at x a b c term = letrec at a (term b) (term c)
node guards Call at x a b c term = call at (term a) (term b)
node guards If at x a b c term = if at (term a) (term b) (term c)
node guards Check at x a b c term = check at x (term a)
node guards Enable at x a b c term = enable at x (term a)
node guards Sign at x a b c term = sign at x (term a)
node guards Test at x a b c term = test at x (term a) (term b)
node guards Sum at x a b c term = binary at sum (term a) (term b)
node guards Difference at x a b c term = binary at difference (term a) (term b)
node guards Less at x a b c term = binary at less (term a) (term b)
node guards Post at x a b c term = post at x (guards x) (term a)

-- The tree below term t, down to a depth. Children are lower than their parent, so a depth of t + 1 reaches all of it.
abbrev pub tree_to : List ℕ → (depth t : ℕ) → Term
tree_to s zero t = boolean t false
tree_to s (suc k) t = node (guard_of s) (kind_of (kind_byte s t)) t (small s t) (first s t) (second s t) (third s t) (λ x. tree_to s k x)

abbrev pub tree : List ℕ → (term : ℕ) → Term
tree s t = tree_to s (suc t) t

-- the whole program: the tree of the root
abbrev pub program : List ℕ → Term
program s = tree s (root s)

-- 02, W13: the number of terms in a tree, "itself counted"
abbrev pub size : Term → ℕ
size (boolean at b) = 1
size (number at n) = 1
size (variable at i) = 1
size (function at ty body) = 1 + size body
size (letrec at ty body rest) = 1 + size body + size rest
size (call at f a) = 1 + size f + size a
size (if at c y n) = 1 + size c + size y + size n
size (check at p c) = 1 + size c
size (enable at p c) = 1 + size c
size (sign at n c) = 1 + size c
size (test at p y n) = 1 + size y + size n
size (binary at op a b) = 1 + size a + size b
size (post at ch g c) = 1 + size c

-- what a term and every term below it have, those of bodies too
abbrev pub Every : (Term → Type 0) → Term → Type 0
Every Q (boolean at b) = Q (boolean at b)
Every Q (number at n) = Q (number at n)
Every Q (variable at i) = Q (variable at i)
Every Q (function at ty body) = Q (function at ty body) × Every Q body
Every Q (letrec at ty body rest) = Q (letrec at ty body rest) × Every Q body × Every Q rest
Every Q (call at f a) = Q (call at f a) × Every Q f × Every Q a
Every Q (if at c y n) = Q (if at c y n) × Every Q c × Every Q y × Every Q n
Every Q (check at p c) = Q (check at p c) × Every Q c
Every Q (enable at p c) = Q (enable at p c) × Every Q c
Every Q (sign at n c) = Q (sign at n c) × Every Q c
Every Q (test at p y n) = Q (test at p y n) × Every Q y × Every Q n
Every Q (binary at op a b) = Q (binary at op a b) × Every Q a × Every Q b
Every Q (post at ch g c) = Q (post at ch g c) × Every Q c

-- whether p is the privilege that a term has, such as a post's guard
abbrev pub contains : (p : ℕ) → Option ℕ → Bool
contains p none = false
contains p (some q) = eqb q p

-- what every post of a term has, said of its channel and guard
abbrev pub EveryPost : (ℕ → Option ℕ → Type 0) → Term → Type 0
EveryPost Q (boolean at b) = Unit {0}
EveryPost Q (number at n) = Unit {0}
EveryPost Q (variable at i) = Unit {0}
EveryPost Q (function at ty body) = EveryPost Q body
EveryPost Q (letrec at ty body rest) = EveryPost Q body × EveryPost Q rest
EveryPost Q (call at f a) = EveryPost Q f × EveryPost Q a
EveryPost Q (if at c y n) = EveryPost Q c × EveryPost Q y × EveryPost Q n
EveryPost Q (check at p c) = EveryPost Q c
EveryPost Q (enable at p c) = EveryPost Q c
EveryPost Q (sign at n c) = EveryPost Q c
EveryPost Q (test at p y n) = EveryPost Q y × EveryPost Q n
EveryPost Q (binary at op a b) = EveryPost Q a × EveryPost Q b
EveryPost Q (post at ch g c) = Q ch g × EveryPost Q c

-- 02, W8: "Version 1 posts on channel 0 without a guard."
abbrev pub Plain : (channel : ℕ) → (guard : Option ℕ) → Type 0
Plain ch g = (ch ≡ 0) × (g ≡ none)

abbrev pub Unguarded : Term → Type 0
Unguarded c = EveryPost Plain c
