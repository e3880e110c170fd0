-- Runs for which a buffer is asked for as the largest. 02, W2: "here and later, a buffer asked for as the largest and lent in another length is 15".
use Rattle.std.specs.Prelude.{Bool, List, [], ◌∷◌, ◌++◌, ℕ, eqb, length}
use Rattle.program.specs.Screening.{Condition, screen, unless_found, unless}
use Rattle.program.specs.Decoding.{decoding_conditions}
use Rattle.semantics.specs.Runs.{Request, Buffers, start_ok, refused, After, run}

-- whether a lent buffer has the largest length
abbrev pub is_largest : (most : ℕ) (buffer : List ℕ) → Bool
is_largest most xs = eqb (length xs) most

-- 15 in the turn that it has in any run, after 1 to 8, 31 and 14 and before 16
abbrev pub largest_conditions : (right : Bool) → List ℕ → Request → List Condition
largest_conditions right s q = decoding_conditions s ++ unless 14 (start_ok s q) ∷ unless 15 right ∷ []

-- a refusal leaves the buffers
abbrev pub refused_with : Buffers → (cause place : ℕ) → After
refused_with b c p = record { answer = refused c p; buffers = b }

-- the run of a caller whose buffers have the lengths asked for, or not
unfoldable pub largest_run : (right : Bool) → List ℕ → Request → Buffers → After
largest_run right s q b = unless_found (refused_with b) (screen (largest_conditions right s q)) λ _. run s q b
