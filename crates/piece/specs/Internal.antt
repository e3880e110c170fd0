-- What the contracts of internal functions say. No reader of the public promise needs this file.
use Rattle.std.specs.Prelude.{List, [], ℕ}
use Rattle.program.specs.Layout.{authority, types_of}
use Rattle.program.specs.Terms.{program}
use Rattle.subterms.specs.Smallest.{subterms, smallest_of, Piece, piece_from}

-- the whole of a readable sheet
abbrev pub piece_in : List ℕ → Piece
piece_in s = piece_from (smallest_of (types_of s) (authority s) (subterms (types_of s) [] 0 (program s)))
