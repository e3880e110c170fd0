-- The values of each case that is answered about the terms of a sheet where they stand. Of the smallest faulty piece, 02's: the term, its count of terms, and
-- its fault, 9 to 12 or 24 to 26; no piece; or the reader's refusal, 1 to 8 or 31. Of one term: its principal, type and needs; its fault, by these numbers; 37
-- for a number that no term has; or the reader's refusal.
use Rattle.std.specs.Prelude.{Option, None, Some, Result, Ok, Err}
use Rattle.program.specs.Answers.{decoding_cause, decoding_place}
use Rattle.program.specs.declared.answer.Refusal.{Refusal}
use Rattle.typing.specs.Answers.{fault_cause, fault_place}
use Rattle.subterms.specs.Smallest.{Piece, smallest, no_piece, unreadable}
use Rattle.subterms.specs.Judging.{JudgedTerm, typed_under, refused}
use Rattle.subterms.specs.declared.answer.Faulty.{Faulty}
use Rattle.subterms.specs.declared.answer.TermJudgement.{TermJudgement}
use Rattle.subterms.specs.declared.answer.JudgingRefusal.{JudgingRefusal}
use Rattle.subterms.specs.declared.answer.JudgingRefusal.TheVariants as refusal
use Rattle.subterms.specs.declared.answer.JudgingRefusal.TheVariants.{NoTerm, Unreadable}

abbrev pub FoundPiece : Type 0
FoundPiece = Result (Option Faulty) Refusal

abbrev pub piece_model : FoundPiece → Piece
piece_model (Ok (Some x)) = smallest x.term x.count (fault_cause x.fault) (fault_place x.fault)
piece_model (Ok None) = no_piece
piece_model (Err f) = unreadable (decoding_cause f) (decoding_place f)

abbrev pub Judged : Type 0
Judged = Result TermJudgement JudgingRefusal

abbrev pub judged_model : Judged → JudgedTerm
judged_model (Ok j) = typed_under j.principal j.ty j.needs
judged_model (Err (refusal.Faulty f)) = refused (fault_cause f) (fault_place f)
judged_model (Err NoTerm) = refused 37 0
judged_model (Err (Unreadable f)) = refused (decoding_cause f) (decoding_place f)
