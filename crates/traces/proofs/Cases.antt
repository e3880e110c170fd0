-- Comparisons by computation from the bytes of records.
use Rattle.std.specs.Prelude.{true, List, [], ◌∷◌, map, ◌≡◌, refl, ℕ}
use Rattle.traces.specs.Traces.{Event, trace_bytes, well_formed_record, trace}
use Rattle.traces.specs.Comparing.{occurs, Comparison, refused, fits, diverges, compared, comparison}

-- a row: the unit's bytes, the office's, and the answer that is due
pub data Case : Type 0 where
  holding : (unit office : List ℕ) → Comparison → Case

abbrev pub due : Case → Comparison
due (holding u o c) = c

abbrev pub observed : Case → Comparison
observed (holding u o c) = comparison u o

abbrev event : ℕ → Event
event at = record { term = at; privilege = 3; decided = true }

-- the bytes of the events of these terms, each a yes for privilege 3
abbrev terms : List ℕ → List ℕ
terms l = trace_bytes (map event l)

unfoldable pub cases : List Case
cases =
    -- all, none, and some of the office's entries; others stand between them
    holding (terms (7 ∷ 8 ∷ 7 ∷ [])) (terms (7 ∷ 8 ∷ 7 ∷ [])) (fits 0)
    ∷ holding [] (terms (7 ∷ 8 ∷ [])) (fits 2)
    ∷ holding [] [] (fits 0)
    ∷ holding (terms (7 ∷ 9 ∷ [])) (terms (6 ∷ 7 ∷ 8 ∷ 7 ∷ 9 ∷ 6 ∷ [])) (fits 4)
    -- the second 8 is not there; the order is another; an entry more than the office has
    ∷ holding (terms (7 ∷ 8 ∷ 8 ∷ 9 ∷ [])) (terms (7 ∷ 8 ∷ 9 ∷ [])) (diverges 2)
    ∷ holding (terms (8 ∷ 7 ∷ [])) (terms (7 ∷ 8 ∷ [])) (diverges 1)
    ∷ holding (terms (7 ∷ [])) [] (diverges 0)
    -- terms of two bytes, and entries that differ in one byte alone
    ∷ holding (terms (1023 ∷ [])) (terms (255 ∷ 1023 ∷ [])) (fits 1)
    ∷ holding (2 ∷ 7 ∷ 3 ∷ 1 ∷ []) (1 ∷ 7 ∷ 3 ∷ 1 ∷ []) (diverges 0)
    ∷ holding (0 ∷ 7 ∷ 4 ∷ 1 ∷ []) (0 ∷ 7 ∷ 3 ∷ 1 ∷ []) (diverges 0)
    ∷ holding (0 ∷ 7 ∷ 3 ∷ 0 ∷ []) (0 ∷ 7 ∷ 3 ∷ 1 ∷ []) (diverges 0)
    -- a part of an entry, and a byte above 1, in either
    ∷ holding (0 ∷ 7 ∷ 3 ∷ []) [] (refused 34 0)
    ∷ holding [] (0 ∷ 7 ∷ 3 ∷ 1 ∷ 0 ∷ []) (refused 34 0)
    ∷ holding (0 ∷ 7 ∷ 3 ∷ 2 ∷ []) (terms (7 ∷ [])) (refused 34 0)
    ∷ holding (terms (8 ∷ [])) (0 ∷ 7 ∷ 3 ∷ 1 ∷ 0 ∷ 7 ∷ 3 ∷ 255 ∷ []) (refused 34 0) ∷ []

pub worked : map observed cases ≡ map due cases
unfolding cases comparison compared occurs well_formed_record trace trace_bytes
worked = refl
