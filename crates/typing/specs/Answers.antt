-- 01's number and values of each case that `typecheck` answers: "9 variable past the bindings, 10 type, 11 needs of a sign, 12 needs of a body,
-- 13 type of the root", and 02's for the type faults that have numbers of their own (W5): a call whose function part isn't a function (24), an
-- argument that doesn't fit (25), branches of which neither fits the other (26). The place of each is a term. 1 to 8 and 31 are the reader's.
use Rattle.std.specs.Prelude.{ℕ, Result, Ok, Err}
use Rattle.program.specs.Answers.{decoding_cause, decoding_place}
use Rattle.typing.specs.Verdicts.{Verdict, accepted, rejected}
use Rattle.typing.specs.declared.answer.Fault.{Fault}
use Rattle.typing.specs.declared.answer.Fault.TheVariants as fault
use Rattle.typing.specs.declared.answer.Fault.TheVariants.{Variable, SignNeeds, BodyNeeds, RootType, NotFunction, Argument, Branches}
use Rattle.typing.specs.declared.answer.Accepted.{Accepted}
use Rattle.typing.specs.declared.answer.Rejection.{Rejection}
use Rattle.typing.specs.declared.answer.Rejection.TheVariants.{Unreadable, Refused}

abbrev pub fault_cause : Fault → ℕ
fault_cause (Variable t) = 9
fault_cause (fault.Type t) = 10
fault_cause (SignNeeds t) = 11
fault_cause (BodyNeeds t) = 12
fault_cause (RootType t) = 13
fault_cause (NotFunction t) = 24
fault_cause (Argument t) = 25
fault_cause (Branches t) = 26

abbrev pub fault_place : Fault → ℕ
fault_place (Variable t) = t
fault_place (fault.Type t) = t
fault_place (SignNeeds t) = t
fault_place (BodyNeeds t) = t
fault_place (RootType t) = t
fault_place (NotFunction t) = t
fault_place (Argument t) = t
fault_place (Branches t) = t

abbrev pub rejection_cause : Rejection → ℕ
rejection_cause (Unreadable f) = decoding_cause f
rejection_cause (Refused f) = fault_cause f

abbrev pub rejection_place : Rejection → ℕ
rejection_place (Unreadable f) = decoding_place f
rejection_place (Refused f) = fault_place f

abbrev pub verdict_model : Result Accepted Rejection → Verdict
verdict_model (Ok a) = accepted a.terms a.ty a.needs
verdict_model (Err r) = rejected (rejection_cause r) (rejection_place r)
