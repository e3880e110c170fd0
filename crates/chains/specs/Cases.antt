-- Explanations by computation from the bytes of sheets, each with one principal, whose set is {1}.
use Rattle.std.specs.Prelude.{List, [], ◌∷◌, map, ◌≡◌, refl, ℕ}
use Rattle.privileges.specs.Sets.{has, meet, union, insert, remove, subset}
use Rattle.program.specs.Screening.{refuse_at, screen}
use Rattle.program.specs.Decoding.{decoding}
use Rattle.typing.specs.Subtyping.{subtype_in, subtype, wider}
use Rattle.typing.specs.Rules.{remove_authorised}
use Rattle.typing.specs.Checking.{infer}
use Rattle.typing.specs.Verdicts.{verdict}
use Rattle.chains.specs.Explaining.{needs, is_cause, followed, next, chain, Explained, explained, not_needed, refused, chain_of, explanation}

-- the fields before the terms but for further types; `size` is the length of the field of types
abbrev fields : (version size : ℕ) → (rest : List ℕ) → List ℕ
fields version size rest =
    1 ∷ 0 ∷ 2 ∷ 0 ∷ version
    ∷ 2 ∷ 0 ∷ 4 ∷ 0 ∷ 0 ∷ 0 ∷ 2
    ∷ 3 ∷ 0 ∷ size
    ∷ 0 ∷ 0 ∷ 0 ∷ 0 ∷ 0 ∷ 0 ∷ 0 ∷ 0 ∷ 0 ∷ 0
    ∷ 1 ∷ 0 ∷ 0 ∷ 0 ∷ 0 ∷ 0 ∷ 0 ∷ 0 ∷ 0 ∷ 0
    ∷ rest

abbrev sheet : (size : ℕ) → (rest : List ℕ) → List ℕ
sheet size rest = fields 1 size rest

-- 01's sheet of 78 bytes: sign 0 (enable 1 (check 1 (post 7)))
abbrev enabled : List ℕ
enabled = sheet 20 (
    4 ∷ 0 ∷ 40
    ∷ 1 ∷ 0 ∷ 0 ∷ 7 ∷ 0 ∷ 0 ∷ 0 ∷ 0
    ∷ 14 ∷ 0 ∷ 0 ∷ 0 ∷ 0 ∷ 0 ∷ 0 ∷ 0
    ∷ 7 ∷ 1 ∷ 0 ∷ 1 ∷ 0 ∷ 0 ∷ 0 ∷ 0
    ∷ 8 ∷ 1 ∷ 0 ∷ 2 ∷ 0 ∷ 0 ∷ 0 ∷ 0
    ∷ 9 ∷ 0 ∷ 0 ∷ 3 ∷ 0 ∷ 0 ∷ 0 ∷ 0 ∷ [])

-- the same without its enable
abbrev unenabled : List ℕ
unenabled = sheet 20 (
    4 ∷ 0 ∷ 32
    ∷ 1 ∷ 0 ∷ 0 ∷ 7 ∷ 0 ∷ 0 ∷ 0 ∷ 0
    ∷ 14 ∷ 0 ∷ 0 ∷ 0 ∷ 0 ∷ 0 ∷ 0 ∷ 0
    ∷ 7 ∷ 1 ∷ 0 ∷ 1 ∷ 0 ∷ 0 ∷ 0 ∷ 0
    ∷ 9 ∷ 0 ∷ 0 ∷ 2 ∷ 0 ∷ 0 ∷ 0 ∷ 0 ∷ [])

-- sign 0 (test 1 then check 1 for 7 else check 1 for 0)
abbrev tested : List ℕ
tested = sheet 20 (
    4 ∷ 0 ∷ 48
    ∷ 1 ∷ 0 ∷ 0 ∷ 7 ∷ 0 ∷ 0 ∷ 0 ∷ 0
    ∷ 7 ∷ 1 ∷ 0 ∷ 0 ∷ 0 ∷ 0 ∷ 0 ∷ 0
    ∷ 1 ∷ 0 ∷ 0 ∷ 0 ∷ 0 ∷ 0 ∷ 0 ∷ 0
    ∷ 7 ∷ 1 ∷ 0 ∷ 2 ∷ 0 ∷ 0 ∷ 0 ∷ 0
    ∷ 10 ∷ 1 ∷ 0 ∷ 1 ∷ 0 ∷ 3 ∷ 0 ∷ 0
    ∷ 9 ∷ 0 ∷ 0 ∷ 4 ∷ 0 ∷ 0 ∷ 0 ∷ 0 ∷ [])

-- sign 0 (5 + (fun x. sign 0 (check 1 x)) 5), the function's latent set being {1}
abbrev called : List ℕ
called = sheet 30 (
    2 ∷ 0 ∷ 0 ∷ 1 ∷ 0 ∷ 1 ∷ 0 ∷ 0 ∷ 0 ∷ 2
    ∷ 4 ∷ 0 ∷ 72
    ∷ 1 ∷ 0 ∷ 0 ∷ 5 ∷ 0 ∷ 0 ∷ 0 ∷ 0
    ∷ 2 ∷ 0 ∷ 0 ∷ 0 ∷ 0 ∷ 0 ∷ 0 ∷ 0
    ∷ 7 ∷ 1 ∷ 0 ∷ 1 ∷ 0 ∷ 0 ∷ 0 ∷ 0
    ∷ 9 ∷ 0 ∷ 0 ∷ 2 ∷ 0 ∷ 0 ∷ 0 ∷ 0
    ∷ 3 ∷ 0 ∷ 0 ∷ 2 ∷ 0 ∷ 3 ∷ 0 ∷ 0
    ∷ 1 ∷ 0 ∷ 0 ∷ 5 ∷ 0 ∷ 0 ∷ 0 ∷ 0
    ∷ 5 ∷ 0 ∷ 0 ∷ 4 ∷ 0 ∷ 5 ∷ 0 ∷ 0
    ∷ 11 ∷ 0 ∷ 0 ∷ 0 ∷ 0 ∷ 6 ∷ 0 ∷ 0
    ∷ 9 ∷ 0 ∷ 0 ∷ 7 ∷ 0 ∷ 0 ∷ 0 ∷ 0 ∷ [])

-- in version 2, sign 0 (post (check 1 for 7)) on a channel, of which privilege 1 guards channel 2 alone
abbrev posted : (channel : ℕ) → List ℕ
posted channel = fields 2 20 (
    4 ∷ 0 ∷ 32
    ∷ 1 ∷ 0 ∷ 0 ∷ 7 ∷ 0 ∷ 0 ∷ 0 ∷ 0
    ∷ 7 ∷ 1 ∷ 0 ∷ 0 ∷ 0 ∷ 0 ∷ 0 ∷ 0
    ∷ 14 ∷ channel ∷ 0 ∷ 1 ∷ 0 ∷ 0 ∷ 0 ∷ 0
    ∷ 9 ∷ 0 ∷ 0 ∷ 2 ∷ 0 ∷ 0 ∷ 0 ∷ 0
    ∷ 5 ∷ 0 ∷ 16
    ∷ 255 ∷ 255 ∷ 1 ∷ 255 ∷ 255 ∷ 255 ∷ 255 ∷ 255 ∷ 255 ∷ 255 ∷ 255 ∷ 255 ∷ 255 ∷ 255 ∷ 255 ∷ 255 ∷ [])

-- a row: a sheet, a privilege, and the explanation that is due
pub data Case : Type 0 where
  query : (sheet : List ℕ) (p : ℕ) → Explained → Case

abbrev pub due : Case → Explained
due (query s p e) = e

abbrev pub observed : Case → Explained
observed (query s p e) = explanation s p

unfoldable pub cases : List Case
cases =
    -- the sign and the check
    query unenabled 1 (explained (3 ∷ 2 ∷ []))
    -- the sign, the test, and the check in its no-branch
    ∷ query tested 1 (explained (5 ∷ 4 ∷ 3 ∷ []))
    -- the sign, the sum and the call: the function itself needs nothing
    ∷ query called 1 (explained (8 ∷ 7 ∷ 6 ∷ []))
    -- the sign and the guarded post, which ends the chain; without a guard it goes on to the check
    ∷ query (posted 2) 1 (explained (3 ∷ 2 ∷ []))
    ∷ query (posted 3) 1 (explained (3 ∷ 2 ∷ 1 ∷ []))
    -- the enable takes it out
    ∷ query enabled 1 not_needed
    ∷ query unenabled 0 not_needed
    -- a privilege above 31, and a sheet that is refused for itself
    ∷ query unenabled 32 (refused 30 0)
    ∷ query [] 32 (refused 1 0) ∷ []

pub worked : map observed cases ≡ map due cases
unfolding cases explanation verdict decoding screen refuse_at infer subtype subtype_in wider remove_authorised has meet union insert remove subset chain_of
    chain next followed is_cause needs
worked = refl
