-- Whether a sheet names a privilege, from any bytes, and with the lowest term that does. 02, W11: "no check, test or guard names p".
use Rattle.std.specs.Prelude.{not, List, [], ◌∷◌, ◌++◌, ℕ, leb}
use Rattle.std.proofs.Math.Option.{Option, none, some}
use Rattle.program.specs.Limits.{max_privilege}
use Rattle.program.specs.Layout.{terms}
use Rattle.program.specs.Screening.{Condition, unless_found, unless, lowest, screen}
use Rattle.program.specs.Decoding.{decoding_conditions}
use Rattle.semantics.specs.Names.{names}

pub data Naming : Type 0 where
  refused : (cause place : ℕ) → Naming
  unnamed : Naming
  named : (term : ℕ) → Naming

-- the lowest term that names p
abbrev pub lowest_naming : List ℕ → (p : ℕ) → Option ℕ
lowest_naming s p = lowest (λ t. not (names s p t)) 0 (terms s)

abbrev pub naming_of : Option ℕ → Naming
naming_of none = unnamed
naming_of (some t) = named t

-- the decoder's refusals, then 30, "a privilege above 31" (W7)
abbrev pub naming_conditions : List ℕ → (p : ℕ) → List Condition
naming_conditions s p = decoding_conditions s ++ unless 30 (leb p max_privilege) ∷ []

unfoldable pub naming : List ℕ → (p : ℕ) → Naming
naming s p = unless_found refused (screen (naming_conditions s p)) λ _. naming_of (lowest_naming s p)
