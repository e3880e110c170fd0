-- What the entry leaves, from the promises of the functions that it calls. Assumes nothing.
use mathlib.Core.List.{List}
use mathlib.Core.Path.{◌≡◌, refl, sym, ap, ◌∙◌}
use Prim.Native.Nat.{ℕ}
use native.Mathlib.Omega.{arith}
use Rattle.replies.specs.Replies as replies
use Rattle.subterms.specs.Smallest.{piece_of, record_offset, record_length}
use Rattle.subterms.specs.Answers.{FoundPiece, piece_model}
use Rattle.subterms.proofs.Theorems.{offset_most, length_most}
use Rattle.std.specs.Prelude.{Some, None, Ok, Err}
use Rattle.piece.specs.Answers.{LocatedAs}
use Rattle.piece.specs.declared.Located.{Located}
use Rattle.capi_piece.specs.Entries.{reply_to, piece_reply}
use Rattle.capi_piece.specs.Internal.{PieceReplyFits, reply_by, located_reply}

module _ (s : List ℕ) {x : Located} (h : LocatedAs s (piece_of s) x) where
  pub near : PieceReplyFits x
  near = record { at_most = omega (arith, h.at_is, offset_most s); len_most = omega (arith, h.len_is, length_most s) }

  by_piece : (p : FoundPiece) → reply_by (record_offset s (piece_model p)) (record_length (piece_model p)) p ≡ reply_to s (piece_model p)
  by_piece (Ok (Some x)) = refl
  by_piece (Ok None) = refl
  by_piece (Err f) = refl

  pub reply_is : {r : replies.Reply} → r ≡ located_reply x → r ≡ piece_reply s
  reply_is q =
      q
      ∙ (λ i. reply_by ((h.at_is ∙ sym (ap (record_offset s) h.piece_is)) i) ((h.len_is ∙ sym (ap record_length h.piece_is)) i) x.piece)
      ∙ by_piece x.piece ∙ ap (reply_to s) h.piece_is
