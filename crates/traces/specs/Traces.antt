-- The events of a run, and the bytes of a record of them. 02, W12: "Both runners can record each check, test and guard they decide as term, privilege and
-- yes or no, in the order met".
use Rattle.std.specs.Prelude.{Bool, true, false, ◌&&◌, List, [], ◌∷◌, ◌++◌, ℕ, ◌+◌, ◌*◌, ◌/◌, ◌%◌, eqb, leb, take}
use Rattle.program.specs.Bytes.{byte, bit}

pub record Event : Type 0 where
  pub term : ℕ
  pub privilege : ℕ
  pub decided : Bool

-- "An entry has four bytes: term (2, highest byte first), privilege, and 1 for yes or 0 for no."
abbrev pub event_bytes : Event → List ℕ
event_bytes e = e.term / 256 ∷ e.term % 256 ∷ e.privilege ∷ bit e.decided ∷ []

unfoldable pub trace_bytes : List Event → List ℕ
trace_bytes [] = []
trace_bytes (e ∷ t) = event_bytes e ++ trace_bytes t

-- what is kept of a run's events in a record of so many bytes: "a full record takes no more"
abbrev pub recorded : (room : ℕ) → List Event → List Event
recorded room t = take (room / 4) t

-- ---- the entries of a record

abbrev pub event_of : (high low privilege decision : ℕ) → Event
event_of h l p d = record { term = h * 256 + l; privilege = p; decided = eqb d 1 }

-- the event whose four bytes stand at a place
abbrev pub event_at : List ℕ → (at : ℕ) → Event
event_at s i = event_of (byte s i) (byte s (i + 1)) (byte s (i + 2)) (byte s (i + 3))

-- neither "a part of an entry" nor "a yes-or-no byte above 1"
unfoldable pub well_formed_record : List ℕ → Bool
well_formed_record [] = true
well_formed_record (h ∷ []) = false
well_formed_record (h ∷ l ∷ []) = false
well_formed_record (h ∷ l ∷ p ∷ []) = false
well_formed_record (h ∷ l ∷ p ∷ d ∷ s) = leb d 1 && well_formed_record s

-- the events of a record, an event for each whole entry
unfoldable pub trace : List ℕ → List Event
trace [] = []
trace (h ∷ []) = []
trace (h ∷ l ∷ []) = []
trace (h ∷ l ∷ p ∷ []) = []
trace (h ∷ l ∷ p ∷ d ∷ s) = event_of h l p d ∷ trace s
