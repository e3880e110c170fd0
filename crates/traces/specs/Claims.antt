-- What the theorems about records and their comparison claim.
use Rattle.std.specs.Prelude.{List, [], ◌∷◌, ◌≡◌, ℕ, suc, ◌+◌, ◌*◌, ◌%◌, ◌<◌, ◌≤◌, length, take}
use Rattle.program.specs.Bytes.{byte}
use Rattle.traces.specs.Traces.{Event}
use Rattle.traces.specs.Comparing.{Subsequence}

-- neither "a part of an entry" nor "a yes-or-no byte above 1"
pub record WellFormedRecord (s : List ℕ) : Type 0 where
  pub whole_entries : length s % 4 ≡ 0
  pub decisions : (k : ℕ) → 4 * k + 3 < length s → byte s (4 * k + 3) ≤ 1

-- events whose parts fit into the bytes of their entries
pub data Storable : List Event → Type 0 where
  storable_none : Storable []
  storable_more : {e : Event} {t : List Event} → e.term < 65536 → e.privilege < 256 → Storable t → Storable (e ∷ t)

-- "fits" with the number missing: the office has so many entries more than the unit
pub record Fits (unit office : List Event) (missing : ℕ) : Type 0 where
  pub in_order_holds : Subsequence unit office
  pub missing_is : length unit + missing ≡ length office

-- "the number, from 0, of the unit's first entry up to which they no longer can": the entries 0 to k do not occur, and each shorter beginning does
pub record Diverges (unit office : List Event) (k : ℕ) : Type 0 where
  pub an_entry : k < length unit
  pub up_to : Subsequence (take (suc k) unit) office → ⊥
  pub shorter : (j : ℕ) → j ≤ k → Subsequence (take j unit) office
