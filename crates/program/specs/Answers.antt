-- 01's number and place for each case of the decoder's answer: "Who can cause which refusal"; and 02's 31 (W8).
use Rattle.std.specs.Prelude.{List, ℕ, Result, Ok, Err}
use Rattle.program.specs.Screening.{Screening, clear, found}
use Rattle.program.specs.Records.{CountsOf}
use Rattle.program.specs.declared.answer.Refusal.{Refusal}
use Rattle.program.specs.declared.answer.Refusal.TheVariants.{CutShort, Tag, Version, Length, BadType, BadTerm, BadPlace, TooDeep, BadGuard}
use Rattle.program.specs.declared.records.Counts.{Counts}

abbrev pub decoding_cause : Refusal → ℕ
decoding_cause CutShort = 1
decoding_cause Tag = 2
decoding_cause Version = 3
decoding_cause Length = 4
decoding_cause (BadType t) = 5
decoding_cause (BadTerm t) = 6
decoding_cause (BadPlace t) = 7
decoding_cause (TooDeep t) = 8
decoding_cause (BadGuard c) = 31

-- "place is the record number, 0 for 1 to 4"; 02, W8: "31 at its channel"
abbrev pub decoding_place : Refusal → ℕ
decoding_place CutShort = 0
decoding_place Tag = 0
decoding_place Version = 0
decoding_place Length = 0
decoding_place (BadType t) = t
decoding_place (BadTerm t) = t
decoding_place (BadPlace t) = t
decoding_place (TooDeep t) = t
decoding_place (BadGuard c) = c

abbrev pub decoded_model : Result Counts Refusal → Screening
decoded_model (Ok c) = clear
decoded_model (Err f) = found (decoding_cause f) (decoding_place f)

-- a readable sheet comes with its counts
abbrev pub Counted : List ℕ → Result Counts Refusal → Type 0
Counted s (Ok c) = CountsOf s c
Counted s (Err f) = Unit {0}
