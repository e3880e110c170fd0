-- What the contracts of internal functions say; no reader of the entry's promise needs it.
use Rattle.std.specs.Prelude.{true, List, ◌≡◌, ℕ, ◌+◌, ◌≤◌, length}
use Rattle.program.specs.Bytes.{byte}
use Rattle.traces.specs.Traces.{trace, well_formed_record}
use Rattle.traces.proofs.Laws.Greedy.{matched}

-- a whole entry stands at a place, with 0 or 1 for its decision
pub record EntryAt (s : List ℕ) (i : ℕ) : Type 0 where
  pub inside : i + 4 ≤ length s
  pub decision : byte s (i + 3) ≤ 1

-- one in each record
pub record TwoEntries (unit : List ℕ) (i : ℕ) (office : List ℕ) (j : ℕ) : Type 0 where
  pub of_unit : EntryAt unit i
  pub of_office : EntryAt office j

-- two records that are well formed
pub record TwoFormed (unit office : List ℕ) : Type 0 where
  pub of_unit : well_formed_record unit ≡ true
  pub of_office : well_formed_record office ≡ true

-- how many of the unit's entries are placed, each as early as it can be
abbrev pub matched_entries : (unit office : List ℕ) → ℕ
matched_entries u o = matched (trace u) (trace o)
