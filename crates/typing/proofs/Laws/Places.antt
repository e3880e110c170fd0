-- What each of a list of terms has, and a term's own number. Assumes nothing.
use Rattle.std.specs.Prelude.{List, [], ◌∷◌, ◌≡◌, refl, ℕ}
use Rattle.std.proofs.Math.Option.{Option}
use Rattle.program.specs.Layout.{kind_byte, small, first, second, third, guard_of}
use Rattle.program.specs.Formats.{Kind, Boolean, Number, Variable, Function, Letrec, Call, If, Check, Enable, Sign, Test, Sum, Difference, Less, Post, kind_of}
use Rattle.program.specs.Terms.{Term, node, tree_to, tree}
use Rattle.typing.specs.Places.{Placed, number_of, Among, among_first, among_later}

abbrev pub EachOf : (Placed → Type 0) → List Placed → Type 0
EachOf Q [] = Unit {0}
EachOf Q (x ∷ l) = Q x × EachOf Q l

pub each_among : (Q : Placed → Type 0) {y : Placed} {l : List Placed} → Among y l → EachOf Q l → Q y
each_among Q among_first k = k.0
each_among Q (among_later m) k = each_among Q m k.1

-- ---- the number of a term of a sheet
node_number : (g : ℕ → Option ℕ) (K : Kind) (t x a b c : ℕ) (f : ℕ → Term) → number_of (node g K t x a b c f) ≡ t
node_number g Boolean t x a b c f = refl
node_number g Number t x a b c f = refl
node_number g Variable t x a b c f = refl
node_number g Function t x a b c f = refl
node_number g Letrec t x a b c f = refl
node_number g Call t x a b c f = refl
node_number g If t x a b c f = refl
node_number g Check t x a b c f = refl
node_number g Enable t x a b c f = refl
node_number g Sign t x a b c f = refl
node_number g Test t x a b c f = refl
node_number g Sum t x a b c f = refl
node_number g Difference t x a b c f = refl
node_number g Less t x a b c f = refl
node_number g Post t x a b c f = refl

pub tree_number : (s : List ℕ) (t : ℕ) → number_of (tree s t) ≡ t
tree_number s t = node_number (guard_of s) (kind_of (kind_byte s t)) t (small s t) (first s t) (second s t) (third s t) (λ x. tree_to s t x)
