-- The smallest faulty piece of a sheet: 02, W13.
use Rattle.std.specs.Prelude.{Bool, cond, ◌&&◌, ◌||◌, List, [], ◌∷◌, ◌++◌, ℕ, eqb, ltb, take, drop}
use Rattle.std.proofs.Math.Option.{Option, none, some}
use Rattle.program.specs.Layout.{Types, term_at, authority, types_of}
use Rattle.program.specs.Terms.{Term, boolean, number, variable, function, letrec, call, if, check, enable, sign, test, binary, post, program, size}
use Rattle.program.specs.Screening.{unless_found}
use Rattle.program.specs.Decoding.{decoding}
use Rattle.typing.specs.Places.{Placed, placed, number_of}
use Rattle.typing.specs.Checking.{Judgement, typed, fault, infer}

-- "consider each term in the bindings and under the principal it has in the sheet": a term where it stands, and all that stand in it
abbrev pub subterms : Types → (Γ : List ℕ) (n : ℕ) → Term → List Placed
subterms T Γ n (boolean at b) = placed Γ n (boolean at b) ∷ []
subterms T Γ n (number at k) = placed Γ n (number at k) ∷ []
subterms T Γ n (variable at i) = placed Γ n (variable at i) ∷ []
subterms T Γ n (function at ty body) = placed Γ n (function at ty body) ∷ subterms T (T.arg ty ∷ Γ) n body
subterms T Γ n (letrec at ty body rest) = placed Γ n (letrec at ty body rest) ∷ subterms T (T.arg ty ∷ ty ∷ Γ) n body ++ subterms T (ty ∷ Γ) n rest
subterms T Γ n (call at f a) = placed Γ n (call at f a) ∷ subterms T Γ n f ++ subterms T Γ n a
subterms T Γ n (if at c y o) = placed Γ n (if at c y o) ∷ subterms T Γ n c ++ subterms T Γ n y ++ subterms T Γ n o
subterms T Γ n (check at p c) = placed Γ n (check at p c) ∷ subterms T Γ n c
subterms T Γ n (enable at p c) = placed Γ n (enable at p c) ∷ subterms T Γ n c
subterms T Γ n (sign at m c) = placed Γ n (sign at m c) ∷ subterms T Γ m c
subterms T Γ n (test at p y o) = placed Γ n (test at p y o) ∷ subterms T Γ n y ++ subterms T Γ n o
subterms T Γ n (binary at op a b) = placed Γ n (binary at op a b) ∷ subterms T Γ n a ++ subterms T Γ n b
subterms T Γ n (post at ch g c) = placed Γ n (post at ch g c) ∷ subterms T Γ n c

-- a term that is refused where it stands: its number, how many terms there are in it, "itself counted", and what the rules say of it there
pub record FaultyTerm : Type 0 where
  pub term : ℕ
  pub count : ℕ
  pub cause : ℕ
  pub place : ℕ

abbrev pub faulty_as : (term count : ℕ) → Judgement → Option FaultyTerm
faulty_as t n (typed τ N) = none
faulty_as t n (fault cause at) = some (record { term = t; count = n; cause = cause; place = at })

-- "the term with the fewest terms in it, …, ties to the lowest number"
abbrev pub before : (x y : FaultyTerm) → Bool
before x y = ltb x.count y.count || (eqb x.count y.count && ltb x.term y.term)

abbrev pub smaller : (x y : Option FaultyTerm) → Option FaultyTerm
smaller none y = y
smaller (some x) none = some x
smaller (some x) (some y) = some (cond (before y x) y x)

module _ (T : Types) (A : ℕ → ℕ) where
  unfoldable pub faulty_at : Placed → Option FaultyTerm
  faulty_at (placed Γ n c) = faulty_as (number_of c) (size c) (infer T A Γ n c)

  unfoldable pub smallest_of : List Placed → Option FaultyTerm
  smallest_of [] = none
  smallest_of (x ∷ l) = smaller (faulty_at x) (smallest_of l)

-- the answer: the smallest one, with its count of terms; "no piece"; or "the reader's refusal"
pub data Piece : Type 0 where
  smallest : (term count cause place : ℕ) → Piece
  no_piece : Piece
  unreadable : (cause place : ℕ) → Piece

abbrev pub piece_from : Option FaultyTerm → Piece
piece_from none = no_piece
piece_from (some x) = smallest x.term x.count x.cause x.place

unfoldable pub piece_of : List ℕ → Piece
piece_of s = unless_found unreadable (decoding s) λ _. piece_from (smallest_of (types_of s) (authority s) (subterms (types_of s) [] 0 (program s)))

-- "those eight bytes of the caller's own sheet that are its record": where they begin, how many there are, and they themselves; none without a piece
abbrev pub record_offset : List ℕ → Piece → ℕ
record_offset s (smallest t n c p) = term_at s t
record_offset s no_piece = 0
record_offset s (unreadable c p) = 0

abbrev pub record_length : Piece → ℕ
record_length (smallest t n c p) = 8
record_length no_piece = 0
record_length (unreadable c p) = 0

abbrev pub record_of : List ℕ → Piece → List ℕ
record_of s p = take (record_length p) (drop (record_offset s p) s)
