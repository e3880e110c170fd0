-- What the entry for an explanation leaves, from the promises of the functions that it calls.
use mathlib.Core.Bool.{Bool, true, false, cond, ◌||◌}
use mathlib.Core.List.{List, ◌++◌}
use mathlib.Core.Option.{Option, none, some}
use mathlib.Core.Path.{◌≡◌, refl, sym, ap, ◌∙◌}
use Prim.Native.Nat.{ℕ, zero, suc, ◌<◌, ◌≤◌}
use native.Mathlib.Omega.{arith}
use lib.Dec.{leb}
use lib.ListN.{length, drop, length-map}
use borrow.Author.Tests.{lt-ltb, le-ltb}
use Rattle.std.specs.Prelude.{Some, None, Ok, Err}
use Rattle.privileges.specs.Sets.{has}
use Rattle.program.specs.Limits.{max_nesting, max_privilege}
use Rattle.program.specs.Layout.{Types, authority, types_of}
use Rattle.typing.specs.Verdicts.{Verdict, accepted, rejected, verdict}
use Rattle.replies.specs.Replies.{short}
use Rattle.replies.specs.Internal.{reply_model, Put}
use Rattle.replies.specs.Laws.{in_place}
use Rattle.replies.specs.declared.Reply.{Reply}
use Rattle.typing.specs.Places.{Placed, placed_number, root_of}
use Rattle.chains.specs.Explaining.{next, chain_from, chain, chain_of, Explained as ExplainedOf, explained_if, explained_in, explained_by, explanation}
use Rattle.chains.specs.Answers.{Explanation, explanation_model, chain_terms, padded, chain_length, ExplainedAs}
use Rattle.chains.specs.declared.answer.ExplanationRefusal.TheVariants.{Rejected, NoPrivilege}
use Rattle.chains.specs.declared.answer.Explained.{Explained}
use Rattle.capi_explain.specs.Entries.{chain_reply, explain_reply, chain_after, returned_explain, explain_left, narrow, explain_call}
use Rattle.capi_explain.specs.Internal.{ExplanationReplyFits, explanation_reply, chain_left}

-- ---- no chain has more than 32 terms
module _ (T : Types) (A : ℕ → ℕ) (p : ℕ) where
  chain_short : (k : ℕ) (x : Placed) → length (chain T A p k x) ≤ k
  unfolding chain
  chain_short zero x = omega arith
  chain_short (suc k) x = go (next T A p x) (chain_short k)
    where
      go : (o : Option Placed) → ((y : Placed) → length (chain T A p k y) ≤ k) → suc (length (chain_from T A p o (λ y. chain T A p k y))) ≤ suc k
      go none h = omega arith
      go (some y) h = omega (arith, h y)

explained_short : (s : List ℕ) (p : ℕ) → length (chain_terms (explanation s p)) ≤ max_nesting
unfolding explanation chain_of
explained_short s p = by_verdict (verdict s)
  where
    by_need : (b : Bool) → length (chain_terms (explained_if s p b)) ≤ max_nesting
    by_need true =
        omega (
          arith,
          length-map (chain_of s p) placed_number,
          chain_short (types_of s) (authority s) p max_nesting (root_of s),
        )
    by_need false = omega arith

    by_number : (N : ℕ) (b : Bool) → length (chain_terms (explained_in s p N b)) ≤ max_nesting
    by_number N true = by_need (has p N)
    by_number N false = omega arith

    by_verdict : (v : Verdict) → length (chain_terms (explained_by s p v)) ≤ max_nesting
    by_verdict (accepted n τ N) = by_number N (leb p max_privilege)
    by_verdict (rejected c at) = omega arith

pub listed : (s : List ℕ) (p : ℕ) (r : Explained) → ExplainedAs r (explanation s p) → ExplanationReplyFits r.answer
listed s p r h = omega (arith, h.length_is, explained_short s p)

-- ---- the reply and the list, by the answer
module _ (terms : List ℕ) where
  reply_by : (a : Explanation) → chain_length a ≡ length (chain_terms (explanation_model a terms))
      → explanation_reply a ≡ explain_reply (explanation_model a terms)
  reply_by (Ok (Some n)) h = ap chain_reply h
  reply_by (Ok None) h = refl
  reply_by (Err (Rejected f)) h = refl
  reply_by (Err NoPrivilege) h = refl

  list_by : (chain : List ℕ) (a : Explanation) → terms ≡ padded (chain_terms (explanation_model a terms))
      → chain_left a terms chain ≡ chain_after (explanation_model a terms) chain
  list_by chain (Ok (Some n)) h = ap (λ (l : List ℕ). l ++ drop max_nesting chain) h
  list_by chain (Ok None) h = ap (λ (l : List ℕ). l ++ drop max_nesting chain) h
  list_by chain (Err (Rejected f)) h = refl
  list_by chain (Err NoPrivilege) h = refl

-- the list afterwards, by the case that a match found
pub kept : (terms chain : List ℕ) {x y : Explanation} {now : List ℕ} → x ≡ y → now ≡ chain_left y terms chain → now ≡ chain_left x terms chain
kept terms chain e h = h ∙ sym (ap (λ (a : Explanation). chain_left a terms chain) e)

-- ---- the entry
module _ (s : List ℕ) (p : ℕ) (chain answer : List ℕ) where
  pub short_answer : narrow chain answer ≡ true → returned_explain 3 answer chain ≡ explain_call s p chain answer
  short_answer e = λ i. cond (sym e i) (returned_explain 3 answer chain) (explain_left answer chain (explanation s p))

  pub few_places : length chain < max_nesting → narrow chain answer ≡ true
  few_places h = ap (λ (b : Bool). b || short answer) (lt-ltb (length chain) max_nesting h)

  pub few_numbers : max_nesting ≤ length chain → length answer < 8 → narrow chain answer ≡ true
  few_numbers h g = λ i. le-ltb (length chain) max_nesting h i || lt-ltb (length answer) 8 g i

  wide : max_nesting ≤ length chain → 8 ≤ length answer → narrow chain answer ≡ false
  wide h g = λ i. le-ltb (length chain) max_nesting h i || le-ltb (length answer) 8 g i

  pub given : max_nesting ≤ length chain → 8 ≤ length answer → (r : Explained) → ExplainedAs r (explanation s p) → {chain' : List ℕ}
      → chain' ≡ chain_left r.answer r.terms chain → {x : Reply} → reply_model x ≡ explanation_reply r.answer → {status : ℕ} {after : List ℕ}
      → Put x answer status after → returned_explain status after chain' ≡ explain_call s p chain answer
  given h g r explains {chain' = chain'} f e put =
      (λ i. record { reply = in_place answer g (e ∙ reply_by r.terms r.answer as_long) put i; chain = list_after i })
      ∙ ap (explain_left answer chain) explains.answer_is
      ∙ (λ i. cond (sym (wide h g) i) (returned_explain 3 answer chain) (explain_left answer chain (explanation s p)))
    where
      as_long : chain_length r.answer ≡ length (chain_terms (explanation_model r.answer r.terms))
      as_long = explains.length_is ∙ sym (ap (λ (x : ExplainedOf). length (chain_terms x)) explains.answer_is)

      as_terms : r.terms ≡ padded (chain_terms (explanation_model r.answer r.terms))
      as_terms = explains.terms_are ∙ sym (ap (λ (x : ExplainedOf). padded (chain_terms x)) explains.answer_is)

      list_after : chain' ≡ chain_after (explanation_model r.answer r.terms) chain
      list_after = f ∙ list_by r.terms chain r.answer as_terms
