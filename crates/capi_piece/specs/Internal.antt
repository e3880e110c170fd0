-- What the contracts of internal functions say; no reader of the entry's promise needs it.
use Rattle.std.specs.Prelude.{Some, None, Ok, Err, ℕ, ◌≤◌}
use Rattle.program.specs.Answers.{decoding_cause, decoding_place}
use Rattle.typing.specs.Answers.{fault_cause}
use Rattle.replies.specs.Replies.{Reply, refusal}
use Rattle.subterms.specs.Answers.{FoundPiece}
use Rattle.piece.specs.declared.Located.{Located}
use Rattle.capi_piece.specs.Entries.{located}

-- the place and the length of a record are at most 65,535, as a sheet has fewer bytes, and so fit into 32 bits
pub record PieceReplyFits (x : Located) : Type 0 where
  pub at_most : x.at ≤ 65535
  pub len_most : x.len ≤ 65535

-- what is told of a piece whose record has this place and length
abbrev pub reply_by : (at length : ℕ) → FoundPiece → Reply
reply_by a l (Ok (Some x)) = located (fault_cause x.fault) x.term x.count a l
reply_by a l (Ok None) = located 0 0 0 0 0
reply_by a l (Err f) = refusal (decoding_cause f) (decoding_place f)

abbrev pub located_reply : Located → Reply
located_reply x = reply_by x.at x.len x.piece
