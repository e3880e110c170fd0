-- The judgement of a term of each kind from those of its children. Assumes nothing.
use mathlib.Core.List.{List}
use mathlib.Core.Logic.{◌⊎◌, inl, inr}
use mathlib.Core.Path.{◌≡◌, refl, sym, ap, ◌∙◌, subst}
use Prim.Native.Nat.{ℕ, ◌<◌, ◌≤◌}
use Rattle.std.specs.Prelude.{Result}
use Rattle.program.specs.Layout.{types_of, guard_in}
use Rattle.program.specs.Terms.{Term}
use Rattle.program.specs.Records.{term_record, type_record, authority_record, guard_record}
use Rattle.program.specs.declared.records.Counts.{Counts}
use Rattle.program.specs.declared.records.TermRecord.{TermRecord}
use Rattle.program.specs.declared.records.TypeRecord.{TypeRecord}
use Rattle.typing.specs.Places.{placed}
use Rattle.typing.specs.Checking.{Judgement, ◌next◌}
use Rattle.typing.specs.declared.answer.Fault.{Fault}
use Rattle.typing.specs.declared.answer.Typed.{Typed}
use Rattle.typing.specs.Verdicts.{term_judgement}
use Rattle.rules.specs.Inference.{inferred_model, context}
use Rattle.rules.specs.Steps.{leaf_step, check_step, enable_step, sign_step, post_step, test_step, if_step, binary_step, function_step, letrec_step, call_step, binary_result}
use Rattle.checker.specs.Internal.{ReadyAt}
use Rattle.checker.proofs.TermLaws.{three_of, leaf_is, check_is, enable_is, sign_is, post_is, test_as, call_as, binary_as, if_as, function_step_lem, letrec_step_lem}
use Rattle.places.specs.Internal.{Children, children_of, children_at}
use Rattle.places.specs.declared.Place.{Place}
use Rattle.places.proofs.PlaceLaws.{term_of, tree_is}
use Rattle.smallest.specs.Internal.{place_judgement, Judges, Judgeable}

module _ {s : List ℕ} {c : Counts} {l : List ℕ} {at : Place} {i j k : Result Typed Fault} (G : Judgeable s c l at i j k) {x : TermRecord}
    (h : x ≡ term_record s c at.term) where
  pub ready_at : ReadyAt s c l at.term at.bindings at.principal x
  ready_at = record { ready = G.ready; known = G.known; record_is = h }

  abbrev Γ : List ℕ
  Γ = context at.bindings

  -- the children's judgements, by the number of the kind
  module _ {m : ℕ} (e : x.kind ≡ m) where
    abbrev children : Children
    children = children_of (types_of s) (placed Γ at.principal (term_of G.ready h m))

    children_are : children_at s at ≡ children
    children_are = ap (λ (z : Term). children_of (types_of s) (placed Γ at.principal z)) (tree_is G.ready h e)

    first_is : Judges s children.first (inferred_model i)
    first_is = subst (λ (k : Children). Judges s k.first (inferred_model i)) children_are G.first

    second_is : Judges s children.second (inferred_model j)
    second_is = subst (λ (k : Children). Judges s k.second (inferred_model j)) children_are G.second

    third_is : Judges s children.third (inferred_model k)
    third_is = subst (λ (z : Children). Judges s z.third (inferred_model k)) children_are G.third

  pub leaf_judged : x.kind < 3 → {r : Judgement} → r ≡ leaf_step x at.term Γ → r ≡ place_judgement s at
  leaf_judged u q = leaf_is ready_at Γ u q

  pub check_judged : x.kind ≡ 7 → {r : Judgement} → r ≡ check_step x.small (inferred_model i) → r ≡ place_judgement s at
  unfolding term_judgement
  check_judged e q = check_is ready_at Γ e (first_is e) q

  pub enable_judged : x.kind ≡ 8 → {authorised : ℕ} → authorised ≡ authority_record s at.principal → {r : Judgement}
      → r ≡ enable_step authorised x.small (inferred_model i)
      → r ≡ place_judgement s at
  unfolding term_judgement
  enable_judged e a q = enable_is ready_at Γ e a (first_is e) q

  pub sign_judged : x.kind ≡ 9 → {authorised : ℕ} → authorised ≡ authority_record s x.small → {r : Judgement}
      → r ≡ sign_step authorised at.term (inferred_model i)
      → r ≡ place_judgement s at
  unfolding term_judgement
  sign_judged e a q = sign_is ready_at Γ e a (first_is e) q

  pub post_judged : x.kind ≡ 14 → {g : ℕ} → g ≡ guard_record s c x.small → {r : Judgement} → r ≡ post_step (guard_in g) at.term (inferred_model i)
      → r ≡ place_judgement s at
  unfolding term_judgement
  post_judged e a q = post_is ready_at Γ e a (first_is e) q

  -- ---- two children
  pub call_judged : x.kind ≡ 5 → {r : Judgement} → r ≡ (inferred_model i next λ φ N. call_step (types_of s) at.term φ N (inferred_model j))
      → r ≡ place_judgement s at
  unfolding term_judgement
  call_judged e q =
      q ∙ (λ a. first_is e a next λ φ N. call_step (types_of s) at.term φ N (second_is e a)) ∙ sym (call_as ready_at Γ e)

  pub test_judged : x.kind ≡ 10 → {r : Judgement} → r ≡ (inferred_model i next λ τ N. test_step (types_of s) x.small at.term τ N (inferred_model j))
      → r ≡ place_judgement s at
  unfolding term_judgement
  test_judged e q =
      q ∙ (λ a. first_is e a next λ τ N. test_step (types_of s) x.small at.term τ N (second_is e a)) ∙ sym (test_as ready_at Γ e)

  pub binary_judged : 11 ≤ x.kind → x.kind < 14 → {r : Judgement}
      → r ≡ (inferred_model i next λ τ N. binary_step (binary_result x.kind) at.term τ N (inferred_model j)) → r ≡ place_judgement s at
  unfolding term_judgement
  binary_judged u v q = q ∙ go (three_of 11 x.kind u v) ∙ sym (binary_as ready_at Γ u v)
    where
      operands : (f g : Judgement) → Judgement
      operands f g = f next λ τ N. binary_step (binary_result x.kind) at.term τ N g

      go : (x.kind ≡ 11) ⊎ ((x.kind ≡ 12) ⊎ (x.kind ≡ 13))
          → operands (inferred_model i) (inferred_model j)
          ≡ operands (term_judgement s Γ at.principal x.first) (term_judgement s Γ at.principal x.second)
      go (inl e) = λ a. operands (first_is e a) (second_is e a)
      go (inr (inl e)) = λ a. operands (first_is e a) (second_is e a)
      go (inr (inr e)) = λ a. operands (first_is e a) (second_is e a)

  -- ---- three children
  pub if_judged : x.kind ≡ 6 → {r : Judgement}
      → r ≡ (inferred_model i next λ σ N. inferred_model j next λ τ M. if_step (types_of s) at.term σ N τ M (inferred_model k)) → r ≡ place_judgement s at
  unfolding term_judgement
  if_judged e q =
      q ∙ (λ a. first_is e a next λ σ N. second_is e a next λ τ M. if_step (types_of s) at.term σ N τ M (third_is e a))
      ∙ sym (if_as ready_at Γ e)

  -- ---- binders
  module _ (f : TypeRecord) (hf : f ≡ type_record s c x.first) where
    pub function_judged : x.kind ≡ 3 → {r : Judgement} → r ≡ function_step f x.first at.term (inferred_model j) → r ≡ place_judgement s at
    unfolding term_judgement
    function_judged e q = q ∙ ap (function_step f x.first at.term) (second_is e) ∙ sym (function_step_lem ready_at Γ f hf refl e)

    pub letrec_judged : x.kind ≡ 4 → {r : Judgement} → r ≡ (inferred_model j next λ τ N. letrec_step f at.term τ N (inferred_model k))
        → r ≡ place_judgement s at
    unfolding term_judgement
    letrec_judged e q = q ∙ (λ a. second_is e a next λ τ N. letrec_step f at.term τ N (third_is e a)) ∙ sym (letrec_step_lem ready_at Γ f hf refl e)
