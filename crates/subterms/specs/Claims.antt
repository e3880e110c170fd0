-- What the theorems say of a smallest faulty piece.
use Rattle.std.specs.Prelude.{Bool, true, ◌&&◌, ◌||◌, List, [], ◌≡◌, ℕ, ◌<◌, ◌≤◌, leb}
use Rattle.program.specs.Layout.{Types, terms, authority, types_of}
use Rattle.program.specs.Terms.{tree, program, size}
use Rattle.typing.specs.Places.{Placed, placed, children, Among}
use Rattle.typing.specs.Checking.{Judgement, typed, fault, infer}
use Rattle.typing.specs.Faults.{Within}

-- "refused by the rules 9 to 12 or 24 to 26"
abbrev pub by_rules : (cause : ℕ) → Bool
by_rules cause = (leb 9 cause && leb cause 12) || (leb 24 cause && leb cause 26)

-- a term is accepted where it stands, or refused
abbrev pub judgement_at : Types → (A : ℕ → ℕ) → Placed → Judgement
judgement_at T A (placed Γ n c) = infer T A Γ n c

pub data HasType (T : Types) (A : ℕ → ℕ) (x : Placed) : Type 0 where
  has_type : {τ N : ℕ} → judgement_at T A x ≡ typed τ N → HasType T A x

pub data HasFault (T : Types) (A : ℕ → ℕ) (x : Placed) : Type 0 where
  has_fault : {cause at : ℕ} → judgement_at T A x ≡ fault cause at → HasFault T A x

-- term u has the bindings Γ and the principal n in the sheet
abbrev pub Stands : (s : List ℕ) → (Γ : List ℕ) (n u : ℕ) → Type 0
Stands s Γ n u = Within (types_of s) Γ n (tree s u) [] 0 (program s)

-- term u is refused in these bindings and under this principal
abbrev pub Faulty : (s : List ℕ) → (Γ : List ℕ) (n u : ℕ) → Type 0
Faulty s Γ n u = HasFault (types_of s) (authority s) (placed Γ n (tree s u))

-- Term t, in the bindings and under the principal that it has in the sheet, is the sheet's smallest faulty piece: there are `count` terms in it, and the
-- rules refuse it there by `cause`.
pub record SmallestPiece (s : List ℕ) (t count cause : ℕ) : Type 0 where
  pub bindings : List ℕ
  pub principal : ℕ
  pub inside : t < terms s
  pub stands : Stands s bindings principal t
  pub count_is : size (tree s t) ≡ count
  -- it is refused there, by a fault of its own
  pub refused : infer (types_of s) (authority s) bindings principal (tree s t) ≡ fault cause t
  pub by_rules_holds : by_rules cause ≡ true
  -- each child of it is accepted where it stands
  pub children_typed : (y : Placed) → Among y (children (types_of s) (placed bindings principal (tree s t))) → HasType (types_of s) (authority s) y
  -- "the fewest terms in it, itself counted": no term with fewer is refused where it stands
  pub fewest : (Γ : List ℕ) (n u : ℕ) → Stands s Γ n u → Faulty s Γ n u → count ≤ size (tree s u)
  -- "ties to the lowest number"
  pub lowest : (Γ : List ℕ) (n u : ℕ) → Stands s Γ n u → Faulty s Γ n u → size (tree s u) ≡ count → t ≤ u
