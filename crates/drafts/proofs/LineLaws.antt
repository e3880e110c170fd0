-- What the lines of the printed text are, case by case of the answer that is printed, as `drafts` puts them together.
use mathlib.Core.Bool.{Bool, true, false, cond}
use mathlib.Core.List.{List, ◌++◌}
use Rattle.std.specs.Prelude.{Result, Ok, Err}
use mathlib.Core.Path.{◌≡◌, sym, ap, ◌∙◌}
use Prim.Native.Nat.{ℕ, ◌≤◌}
use native.Mathlib.Omega.{arith}
use borrow.Author.Tests.{eq-eqb, ne_eqb}
use Rattle.stores.specs.Stops.{stop_cause, stop_place}
use Rattle.stores.specs.declared.values.Stop.{Stop}
use Rattle.interp.specs.Answers.{outcome_model}
use Rattle.interp.specs.declared.answer.Ground.{Ground}
use Rattle.interp.specs.declared.answer.Ground.TheVariants.{Bool as VBool, Num}
use Rattle.text.specs.Text.{ascii, line, labelled, type_line, place_text, outcome_text}
use Rattle.drafts.specs.Internal.{contents, DraftAppended}
use Rattle.numbers.specs.Codes.{CodeIs}
use Rattle.numbers.specs.declared.Code.{Code}
use Rattle.drafts.specs.declared.draft.Draft.{Draft}

-- the same piece by an equation, in no less room
pub same_piece : {d r : Draft} {a b : List ℕ} {m : ℕ} (most : ℕ) → m ≤ most → a ≡ b → DraftAppended d a m r → DraftAppended d b most r
same_piece {d = d} most h e p = record {
  contents_are = p.contents_are ∙ ap (λ (xs : List ℕ). contents d ++ xs) e;
  len_most = omega (arith, p.len_most);
}

abbrev typed : Bool → List ℕ
typed b = line (ascii "type " ++ cond b (ascii "bool") (ascii "num"))

pub boolean_line : {d r : Draft} (τ : ℕ) → τ ≡ 0 → DraftAppended d (ascii "type bool\n") 10 r → DraftAppended d (type_line τ) 10 r
boolean_line τ e p = same_piece 10 (omega arith) (sym (ap typed (eq-eqb τ 0 e))) p

pub number_line : {d r : Draft} (τ : ℕ) → (τ ≡ 0 → ⊥) → DraftAppended d (ascii "type num\n") 9 r → DraftAppended d (type_line τ) 10 r
number_line τ e p = same_piece 10 (omega arith) (sym (ap typed (ne_eqb τ 0 e))) p

abbrev ending : Ground → List ℕ
ending v = outcome_text (outcome_model (Ok v))

abbrev truth : Bool → List ℕ
truth b = ending (VBool b)

abbrev shown : Result Ground Stop → List ℕ
shown o = outcome_text (outcome_model o)

pub stop_shown : {d r : Draft} {o : Result Ground Stop} {x : Stop} {n : Code} → o ≡ Err x → CodeIs (stop_cause x) (stop_place x) n
    → DraftAppended d (labelled "stop " n.cause ++ place_text n.place) 49 r → DraftAppended d (shown o) 49 r
stop_shown e k p = same_piece 49 (omega arith) ((λ i. labelled "stop " (k.cause_is i) ++ place_text (k.place_is i)) ∙ sym (ap shown e)) p

module _ {o : Result Ground Stop} {v : Ground} (e : o ≡ Ok v) where
  ending_is : (w : Ground) → v ≡ w → ending w ≡ shown o
  ending_is w f = sym (ap shown e ∙ ap ending f)

  pub number_shown : {d r : Draft} {n : ℕ} → v ≡ Num n → DraftAppended d (labelled "end num " n) 28 r → DraftAppended d (shown o) 49 r
  number_shown {n = n} f p = same_piece 49 (omega arith) (ending_is (Num n) f) p

  pub true_shown : {d r : Draft} {b : Bool} → v ≡ VBool b → b ≡ true → DraftAppended d (ascii "end bool 1") 10 r → DraftAppended d (shown o) 49 r
  true_shown {b = b} f t p = same_piece 49 (omega arith) (sym (ap truth t) ∙ ending_is (VBool b) f) p

  pub false_shown : {d r : Draft} {b : Bool} → v ≡ VBool b → b ≡ false → DraftAppended d (ascii "end bool 0") 10 r → DraftAppended d (shown o) 49 r
  false_shown {b = b} f t p = same_piece 49 (omega arith) (sym (ap truth t) ∙ ending_is (VBool b) f) p
