-- What the contracts of this crate's functions say. No reader of a public promise needs this file.
use Rattle.std.specs.Prelude.{Option as Maybe, Some, None, IfSome, List, ◌∷◌, ◌≡◌, ℕ, ◌-◌, ◌<◌}
use Rattle.std.proofs.Math.Option.{Option, none, some}
use Rattle.program.specs.Layout.{Types, types_of}
use Rattle.program.specs.Terms.{boolean, number, variable, function, letrec, call, if, check, enable, sign, test, binary, post, tree}
use Rattle.program.specs.declared.records.Counts.{Counts}
use Rattle.typing.specs.Places.{Placed, placed}
use Rattle.rules.specs.Inference.{context, Ready}
use Rattle.rules.specs.declared.bindings.Bindings.{Bindings}
use Rattle.places.specs.declared.Place.{Place}

-- the term that stands at a place
abbrev pub placed_at : List ℕ → Place → Placed
placed_at s x = placed (context x.bindings) x.principal (tree s x.term)

-- what judging it asks
abbrev pub ReadyPlace : List ℕ → Counts → Place → Type 0
ReadyPlace s c x = Ready s c x.term x.bindings x.principal

abbrev pub place_of : (t : ℕ) → Bindings → (n : ℕ) → Place
place_of t b n = record { term = t; bindings = b; principal = n }

-- the root, where it stands
pub record AtRoot (c : Counts) (r : Place) : Type 0 where
  pub term_is : r.term ≡ c.terms - 1
  pub no_bindings : r.bindings.len ≡ 0
  pub principal_is : r.principal ≡ 0

-- a child where it stands, or none
abbrev pub Child : Type 0
Child = Maybe Place

abbrev pub present : (t : ℕ) → Bindings → (n : ℕ) → Child
present t b n = Some (place_of t b n)

-- ---- children by their position
pub record Children : Type 0 where
  pub first : Option Placed
  pub second : Option Placed
  pub third : Option Placed

abbrev children : (first second third : Option Placed) → Children
children x y z = record { first = x; second = y; third = z }

abbrev pub children_of : Types → Placed → Children
children_of T (placed Γ n (boolean at b)) = children none none none
children_of T (placed Γ n (number at k)) = children none none none
children_of T (placed Γ n (variable at i)) = children none none none
children_of T (placed Γ n (function at ty body)) = children none (some (placed (T.arg ty ∷ Γ) n body)) none
children_of T (placed Γ n (letrec at ty body rest)) = children none (some (placed (T.arg ty ∷ ty ∷ Γ) n body)) (some (placed (ty ∷ Γ) n rest))
children_of T (placed Γ n (call at f a)) = children (some (placed Γ n f)) (some (placed Γ n a)) none
children_of T (placed Γ n (if at c y o)) = children (some (placed Γ n c)) (some (placed Γ n y)) (some (placed Γ n o))
children_of T (placed Γ n (check at q c)) = children (some (placed Γ n c)) none none
children_of T (placed Γ n (enable at q c)) = children (some (placed Γ n c)) none none
children_of T (placed Γ n (sign at m c)) = children (some (placed Γ m c)) none none
children_of T (placed Γ n (test at q y o)) = children (some (placed Γ n y)) (some (placed Γ n o)) none
children_of T (placed Γ n (binary at op a b)) = children (some (placed Γ n a)) (some (placed Γ n b)) none
children_of T (placed Γ n (post at ch g c)) = children (some (placed Γ n c)) none none

abbrev pub children_at : List ℕ → Place → Children
children_at s x = children_of (types_of s) (placed_at s x)

abbrev pub child_at : List ℕ → Child → Option Placed
child_at s None = none
child_at s (Some x) = some (placed_at s x)

-- a child that is there may be judged
abbrev pub ReadyChild : List ℕ → Counts → Child → Type 0
ReadyChild s c y = IfSome y (ReadyPlace s c)

-- a child of term t as it is due; a place that is there is lower and may be judged
pub record Reached (s : List ℕ) (c : Counts) (t : ℕ) (r : Child) (due : Option Placed) : Type 0 where
  pub is : child_at s r ≡ due
  pub lower : IfSome r (λ x. x.term < t)
  pub ready : ReadyChild s c r
