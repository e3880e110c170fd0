-- Terms where they stand: with the bindings and under the principal that they have in the sheet, as declared types and enclosing signs give them.
use Rattle.std.specs.Prelude.{List, [], ◌∷◌, ℕ}
use Rattle.program.specs.Layout.{Types}
use Rattle.program.specs.Terms.{Term, boolean, number, variable, function, letrec, call, if, check, enable, sign, test, binary, post, program}

-- a term with the bindings and the principal that it has in the sheet
pub data Placed : Type 0 where
  placed : (Γ : List ℕ) (n : ℕ) (c : Term) → Placed

-- a term's number
abbrev pub number_of : Term → ℕ
number_of (boolean at b) = at
number_of (number at n) = at
number_of (variable at i) = at
number_of (function at ty body) = at
number_of (letrec at ty body rest) = at
number_of (call at f a) = at
number_of (if at c y o) = at
number_of (check at p c) = at
number_of (enable at p c) = at
number_of (sign at n c) = at
number_of (test at p y o) = at
number_of (binary at op a b) = at
number_of (post at ch g c) = at

abbrev pub placed_number : Placed → ℕ
placed_number (placed Γ n c) = number_of c

-- a term's children by their position, first, second, third: a binder's have its bindings before the others, and a sign's has the sign's principal
abbrev pub children_in : Types → (Γ : List ℕ) (n : ℕ) → Term → List Placed
children_in T Γ n (boolean at b) = []
children_in T Γ n (number at k) = []
children_in T Γ n (variable at i) = []
children_in T Γ n (function at ty body) = placed (T.arg ty ∷ Γ) n body ∷ []
children_in T Γ n (letrec at ty body rest) = placed (T.arg ty ∷ ty ∷ Γ) n body ∷ placed (ty ∷ Γ) n rest ∷ []
children_in T Γ n (call at f a) = placed Γ n f ∷ placed Γ n a ∷ []
children_in T Γ n (if at c y o) = placed Γ n c ∷ placed Γ n y ∷ placed Γ n o ∷ []
children_in T Γ n (check at q c) = placed Γ n c ∷ []
children_in T Γ n (enable at q c) = placed Γ n c ∷ []
children_in T Γ n (sign at m c) = placed Γ m c ∷ []
children_in T Γ n (test at q y o) = placed Γ n y ∷ placed Γ n o ∷ []
children_in T Γ n (binary at op a b) = placed Γ n a ∷ placed Γ n b ∷ []
children_in T Γ n (post at ch g c) = placed Γ n c ∷ []

unfoldable pub children : Types → Placed → List Placed
children T (placed Γ n c) = children_in T Γ n c

-- the root, without bindings; it is a sign, so that the principal named here is never looked at
abbrev pub root_of : List ℕ → Placed
root_of s = placed [] 0 (program s)

-- x is one of the list
pub data Among (x : Placed) : List Placed → Type 0 where
  among_first : {l : List Placed} → Among x (x ∷ l)
  among_later : {z : Placed} {l : List Placed} → Among x l → Among x (z ∷ l)
