-- 02's number and values of each case that an explanation answers: the chain, "not needed", the type checker's refusals, and 30.
use Rattle.std.specs.Prelude.{List, [], ◌++◌, ◌≡◌, ℕ, ◌-◌, length, take, replicate, Option, Some, None, Result, Ok, Err}
use Rattle.program.specs.Limits.{max_nesting}
use Rattle.typing.specs.Answers.{rejection_cause, rejection_place}
use Rattle.chains.specs.Explaining.{Explained as ExplainedOf, explained, not_needed, refused}
use Rattle.chains.specs.declared.answer.ExplanationRefusal.{ExplanationRefusal}
use Rattle.chains.specs.declared.answer.ExplanationRefusal.TheVariants.{Rejected, NoPrivilege}
use Rattle.chains.specs.declared.answer.Explained.{Explained}

-- what the code tells beside the terms: the chain's length, none where the privilege is not needed, or the refusal
abbrev pub Explanation : Type 0
Explanation = Result (Option ℕ) ExplanationRefusal

abbrev pub explanation_model : Explanation → (terms : List ℕ) → ExplainedOf
explanation_model (Ok (Some n)) l = explained (take n l)
explanation_model (Ok None) l = not_needed
explanation_model (Err (Rejected r)) l = refused (rejection_cause r) (rejection_place r)
explanation_model (Err NoPrivilege) l = refused 30 0

abbrev pub explained_model : Explained → ExplainedOf
explained_model r = explanation_model r.answer r.terms

-- the places of the list: the chain, and then zeros up to 32
abbrev pub chain_terms : ExplainedOf → List ℕ
chain_terms (explained l) = l
chain_terms not_needed = []
chain_terms (refused c p) = []

abbrev pub padded : List ℕ → List ℕ
padded l = l ++ replicate (max_nesting - length l) 0

-- the length that a chain is told with
abbrev pub chain_length : Explanation → ℕ
chain_length (Ok (Some n)) = n
chain_length (Ok None) = 0
chain_length (Err f) = 0

-- what the answer, its length and its list say
pub record ExplainedAs (r : Explained) (e : ExplainedOf) : Type 0 where
  pub answer_is : explained_model r ≡ e
  pub length_is : chain_length r.answer ≡ length (chain_terms e)
  pub terms_are : r.terms ≡ padded (chain_terms e)
