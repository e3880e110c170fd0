-- A piece with the place of its record: what `piece`, `record_of` and `locate` answer fits together.
use Rattle.std.specs.Prelude.{List, ◌≡◌, ℕ}
use Rattle.subterms.specs.Smallest.{Piece, record_offset, record_length}
use Rattle.subterms.specs.Answers.{piece_model}
use Rattle.piece.specs.declared.Located.{Located}

-- a piece of the sheet, where its record begins, and how many bytes it has
pub record LocatedAs (s : List ℕ) (p : Piece) (r : Located) : Type 0 where
  pub piece_is : piece_model r.piece ≡ p
  pub at_is : r.at ≡ record_offset s p
  pub len_is : r.len ≡ record_length p
