-- What the contracts of the decoder's own functions say. No reader of the public promise needs this file.
use Rattle.std.specs.Prelude.{Bool, false, cond, List, ◌≡◌, ℕ, zero, suc, ◌+◌, ◌-◌, ◌<◌, ◌≤◌, leb, eqb, length, get_or}
use Rattle.std.proofs.Math.Option.{none}
use Rattle.program.specs.Limits.{max_terms, max_nesting}
use Rattle.program.specs.Layout.{types, terms}
use Rattle.program.specs.Tests.{or_else}
use Rattle.program.specs.Screening.{Screening, screen, lowest}
use Rattle.program.specs.Decoding.{type_ok, term_ok, times_below, placed_ok, parent, nested_in, table_conditions}
use Rattle.program.specs.declared.records.Counts.{Counts}
use Rattle.accessors.specs.Internal.{Laid}
use Rattle.termrecords.specs.declared.Shape.{Shape}
use Rattle.termrecords.specs.declared.Shape.TheVariants.{Leaf, One, Two, Three, Function as FunctionShape, Letrec as LetrecShape}

-- what screening the tables finds. It is opened only in the laws that need it: a type's depth and a term's nesting are sought 12 and 32 levels down, so that
-- all of the conditions, computed as far as they go, are too long to be read.
unfoldable pub table_screening : List ℕ → Screening
table_screening s = screen (table_conditions s)

-- ---- what has been sought and not found
pub record TypesOk (s : List ℕ) : Type 0 where
  pub none_found : lowest (type_ok s) 0 (types s) ≡ none

pub record TermsOk (s : List ℕ) : Type 0 where
  pub none_found : lowest (term_ok s) 0 (terms s) ≡ none

-- what the search for places may rely on: the fields are laid, and no record of the tables is at fault
pub record Tables (s : List ℕ) (c : Counts) : Type 0 where
  pub laid : Laid s c
  pub types_ok : TypesOk s
  pub terms_ok : TermsOk s

-- and a term
pub record TableTerm (s : List ℕ) (c : Counts) (t : ℕ) : Type 0 where
  pub tables : Tables s c
  pub inside : t < terms s

-- ---- parents
-- what is noted for a term with more than one parent: the largest number of 16 bits, which no term has
abbrev pub many_parents : ℕ
many_parents = 65535

-- one more parent is noted for x, and the other entries are as they were
abbrev pub link_step : (old t : ℕ) → ℕ
link_step old t = cond (eqb old 0) t many_parents

abbrev pub Linked : (old new : List ℕ) (x t : ℕ) → Type 0
Linked old new x t = (y : ℕ) → y < length old → get_or new y 0 ≡ cond (eqb x y) (link_step (get_or old y 0) t) (get_or old y 0)

-- so many parents are noted
abbrev pub link_times : (count old t : ℕ) → ℕ
link_times zero v t = v
link_times (suc k) v t = link_times k (link_step v t) t

abbrev pub count_equal : (x y : ℕ) → ℕ
count_equal x y = cond (eqb x y) 1 0

-- how often y is among the children
abbrev pub times_in_shape : (y : ℕ) → Shape → ℕ
times_in_shape y Leaf = 0
times_in_shape y (One a) = count_equal a y
times_in_shape y (Two a b) = count_equal a y + count_equal b y
times_in_shape y (Three a b d) = count_equal a y + count_equal b y + count_equal d y
times_in_shape y (FunctionShape b) = count_equal b y
times_in_shape y (LetrecShape b d) = count_equal b y + count_equal d y

abbrev pub LinkedAll : (old new : List ℕ) → Shape → (t : ℕ) → Type 0
LinkedAll old new x t = (y : ℕ) → y < length old → get_or new y 0 ≡ link_times (times_in_shape y x) (get_or old y 0) t

-- the numbers of the children are below n
pub record TwoBelow (a b n : ℕ) : Type 0 where
  pub first : a < n
  pub second : b < n

pub record ThreeBelow (a b d n : ℕ) : Type 0 where
  pub first : a < n
  pub second : b < n
  pub third : d < n

abbrev pub ChildrenBelow : Shape → (n : ℕ) → Type 0
ChildrenBelow Leaf n = Unit {0}
ChildrenBelow (One a) n = a < n
ChildrenBelow (Two a b) n = TwoBelow a b n
ChildrenBelow (Three a b d) n = ThreeBelow a b d n
ChildrenBelow (FunctionShape b) n = b < n
ChildrenBelow (LetrecShape b d) n = TwoBelow b d n

-- what is noted for a term that stands so often as a child, p being its parent
abbrev pub link_of : (times p : ℕ) → ℕ
link_of zero p = 0
link_of (suc zero) p = p
link_of (suc (suc n)) p = many_parents

-- the list has what the first so many terms note
pub record Links (s l : List ℕ) (t : ℕ) : Type 0 where
  pub each : (x : ℕ) → x < max_terms → get_or l x 0 ≡ link_of (times_below s x t) (parent s x t)

pub record PlacesOk (s l : List ℕ) : Type 0 where
  pub none_found : lowest (placed_ok s) 0 (terms s) ≡ none
  pub links : Links s l (terms s)

-- the tables, and the list of parents
pub record LinkedTables (s : List ℕ) (c : Counts) (l : List ℕ) : Type 0 where
  pub tables : Tables s c
  pub links : Links s l (terms s)

-- and a term
pub record LinkedTerm (s : List ℕ) (c : Counts) (l : List ℕ) (t : ℕ) : Type 0 where
  pub tables : Tables s c
  pub links : Links s l (terms s)
  pub inside : t < terms s

-- the tables, with every term in its place
pub record PlacedTables (s : List ℕ) (c : Counts) (l : List ℕ) : Type 0 where
  pub tables : Tables s c
  pub places_ok : PlacesOk s l

-- and none nested too deep
pub record NestedTables (s : List ℕ) (c : Counts) : Type 0 where
  pub tables : Tables s c
  pub places_ok : lowest (placed_ok s) 0 (terms s) ≡ none
  pub nesting_ok : lowest (nested_in s max_nesting) 0 (terms s) ≡ none

-- ---- nesting
-- every term but the root has its parent above it
pub record Rising (l : List ℕ) (n : ℕ) : Type 0 where
  pub above : (x : ℕ) → suc x < n → x < get_or l x 0
  pub inside : (x : ℕ) → suc x < n → get_or l x 0 < n

-- a table of so many terms, with its list of parents
pub record ParentList (l : List ℕ) (n : ℕ) : Type 0 where
  pub low : 1 ≤ n
  pub high : n ≤ max_terms
  pub rising : Rising l n

-- `nested_in`, by a list of parents
abbrev pub nested_by : (l : List ℕ) (n deep t : ℕ) → Bool
nested_by l n zero t = false
nested_by l n (suc k) t = or_else (eqb t (n - 1)) λ _. nested_by l n k (get_or l t 0)

-- from t on, d has the nesting, held at 33
pub record Nested (l d : List ℕ) (n t : ℕ) : Type 0 where
  pub each : (x : ℕ) → t ≤ x → x < n → (k : ℕ) → k ≤ max_nesting → nested_by l n k x ≡ leb (get_or d x 0) k

abbrev pub shallow_enough : List ℕ → ℕ → Bool
shallow_enough d x = leb (get_or d x 0) max_nesting
