-- The fifteen kinds of terms and the use that each makes of its record's parts: 01's table under "The kind byte picks one of fifteen terms", and
-- 02's channel of a post (W8).
use Rattle.std.specs.Prelude.{Bool, true, false, List, [], ◌∷◌, ℕ, get_or}

-- what a part of a record holds
pub data Part : Type 0 where
  unused : Part
  flag : Part
  any_number : Part
  privilege : Part
  principal : Part
  channel : Part
  function_type : Part
  child : Part
  -- a child that is the body of a function, and therefore a sign
  body_child : Part

abbrev pub is_child : Part → Bool
is_child unused = false
is_child flag = false
is_child any_number = false
is_child privilege = false
is_child principal = false
is_child channel = false
is_child function_type = false
is_child child = true
is_child body_child = true

pub record Format : Type 0 where
  pub small : Part
  pub first : Part
  pub second : Part
  pub third : Part

pub data Kind : Type 0 where
  Boolean Number Variable Function Letrec Call If Check Enable Sign Test Sum Difference Less Post : Kind

-- the kinds in the order of their numbers, 0 to 14
abbrev pub kinds : List Kind
kinds = Boolean ∷ Number ∷ Variable ∷ Function ∷ Letrec ∷ Call ∷ If ∷ Check ∷ Enable ∷ Sign ∷ Test ∷ Sum ∷ Difference ∷ Less ∷ Post ∷ []

abbrev pub kind_of : ℕ → Kind
kind_of n = get_or kinds n Post

abbrev uses : (small first second third : Part) → Format
uses a b c d = record { small = a; first = b; second = c; third = d }

abbrev pub format : Kind → Format
format Boolean = uses flag unused unused unused
format Number = uses unused any_number unused unused
format Variable = uses unused any_number unused unused
format Function = uses unused function_type body_child unused
format Letrec = uses unused function_type body_child child
format Call = uses unused child child unused
format If = uses unused child child child
format Check = uses privilege child unused unused
format Enable = uses privilege child unused unused
format Sign = uses principal child unused unused
format Test = uses privilege child child unused
format Sum = uses unused child child unused
format Difference = uses unused child child unused
format Less = uses unused child child unused
-- 02, W8: "lets the small byte of a post be a channel"
format Post = uses channel child unused unused
