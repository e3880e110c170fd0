-- Refusals: an ordered list of conditions, of which the first that is found is told, with its number in 01 and its place.
use Rattle.std.specs.Prelude.{Bool, true, false, cond, List, [], ◌∷◌, ◌≡◌, ℕ, zero, suc}
use Rattle.std.proofs.Math.Option.{Option, none, some}

pub record Condition : Type 0 where
  pub cause : ℕ
  -- the place where it is found; a function, so that nothing is sought before its turn
  pub found : Unit {0} → Option ℕ

pub data Screening : Type 0 where
  clear : Screening
  found : (cause place : ℕ) → Screening

unfoldable pub refuse_at : (cause : ℕ) → Option ℕ → (Unit {0} → Screening) → Screening
refuse_at cause none later = later tt
refuse_at cause (some place) later = found cause place

unfoldable pub screen : List Condition → Screening
unfolding refuse_at
screen [] = clear
screen (c ∷ cs) = refuse_at c.cause (c.found tt) λ _. screen cs

-- what follows where nothing is found, or else a refusal
abbrev pub unless_found : {A : Type 0} → (refuse : (cause place : ℕ) → A) → Screening → (Unit {0} → A) → A
unless_found refuse clear later = later tt
unless_found refuse (found c p) later = refuse c p

-- The same as propositions, for theorems: the cause and place are those of the first condition that is found; or none is found.
pub data First (cause place : ℕ) : List Condition → Type 0 where
  first_here : {c : Condition} {cs : List Condition} → c.cause ≡ cause → c.found tt ≡ some place → First cause place (c ∷ cs)
  first_later : {c : Condition} {cs : List Condition} → c.found tt ≡ none → First cause place cs → First cause place (c ∷ cs)

pub data None : List Condition → Type 0 where
  none_end : None []
  none_next : {c : Condition} {cs : List Condition} → c.found tt ≡ none → None cs → None (c ∷ cs)

-- a condition without a place of its own: found unless a test holds
abbrev pub unless : (cause : ℕ) (ok : Bool) → Condition
unless cause ok = record { cause = cause; found = λ _. cond ok none (some 0) }

-- the lowest number from i on, of so many, that fails a test
abbrev pub onward : Bool → ℕ → (Unit {0} → Option ℕ) → Option ℕ
onward true i later = later tt
onward false i later = some i

abbrev pub lowest : (ℕ → Bool) → (i count : ℕ) → Option ℕ
lowest ok i zero = none
lowest ok i (suc n) = onward (ok i) i λ _. lowest ok (suc i) n

-- a condition that is sought over a whole table, in ascending order
abbrev pub seek : (cause : ℕ) → (ℕ → Bool) → (count : ℕ) → Condition
seek cause ok count = record { cause = cause; found = λ _. lowest ok 0 count }
