-- Pairs that are right are as many as laying them asks for, and the words with the pairs are as the evaluator and the refinement ask. Assumes nothing.
use mathlib.Core.Bool.{Bool, true, false, true≢false}
use mathlib.Core.List.{List}
use mathlib.Core.Path.{◌≡◌, refl, sym, ◌∙◌, subst}
use Prim.Native.Nat.{ℕ, ◌*◌, ◌<◌, ◌≤◌}
use native.Mathlib.Decide.{dec_lt}
use native.Mathlib.Omega.{arith}
use lib.Dec.{eqb}
use lib.ListN.{length, get_or}
use borrow.Author.Tests.{eq-eqb, ne_eqb, eqb-true}
use Rattle.privileges.specs.Booleans.{and_left, and_right}
use Rattle.program.specs.Layout.{terms, kind_byte}
use Rattle.program.specs.Records.{CountsOf}
use Rattle.program.proofs.Laws.Readable.{WellFormed}
use Rattle.program.specs.declared.records.Counts.{Counts}
use Rattle.intervals.specs.Pairs.{is_number, numbers_below, pairs_ok}
use Rattle.termtable.specs.Table.{word_kind, TermWords}
use Rattle.machine.specs.Store.{action_of}
use Rattle.machine.specs.Lower.{ChildrenLower}
use Rattle.evaluator.specs.Promises.{TermTable}
use Rattle.evaluator.specs.Laws.{table_of}
use Rattle.refinement.specs.Claims.{IntervalTable}
use Rattle.pairs.specs.Internal.{PairsLaid}

-- ---- the pairs are enough
pub pairs_enough : (s ps : List ℕ) → pairs_ok s ps ≡ true → 2 * numbers_below s (terms s) ≤ length ps
pairs_enough s ps e =
    let many : eqb (length ps) (2 * numbers_below s (terms s)) ≡ true = search (e, and_left, and_right) in
    omega (arith, eqb-true (length ps) (2 * numbers_below s (terms s)) many)

-- ---- the words with the pairs are as the evaluator and the refinement ask
module _ {s : List ℕ} {c : Counts} {ps old new : List ℕ} (w : WellFormed s) (k : CountsOf s c) (d : TermWords s c old)
    (h : PairsLaid s ps (terms s) old new) where
  pub interval_table : IntervalTable s c ps new
  interval_table = record {
    others = λ t l n. rw (h.others t (λ _. ne_eqb (kind_byte s t) 1 n)) (d.holds t);
    kind_is = λ t l e. (h.numbers t l (eq-eqb (kind_byte s t) 1 e)).kind_is;
    lowest_is = λ t l e. (h.numbers t l (eq-eqb (kind_byte s t) 1 e)).lowest_is;
    highest_is = λ t l e. (h.numbers t l (eq-eqb (kind_byte s t) 1 e)).highest_is;
  }

  -- a number evaluates nothing
  childless_lower : (t x : ℕ) → ChildrenLower (action_of 1) t x
  unfolding action_of
  childless_lower t x = record {
    first_lower = λ e. absurd (true≢false (sym e));
    second_lower = λ e. absurd (true≢false (sym e));
    third_lower = λ e. absurd (true≢false (sym e));
    privilege = λ e. absurd (true≢false (sym e));
    guard = λ e. absurd (true≢false (sym e));
  }

  same_lower : (t : ℕ) → (t < terms s → is_number s t ≡ false) → ChildrenLower (action_of (word_kind (get_or new t 0))) t (get_or new t 0)
  same_lower t n = subst (λ x. ChildrenLower (action_of (word_kind x)) t x) (sym (h.others t n)) ((table_of w k d).lower t)

  pub laid_table : TermTable new
  laid_table = record { long = h.long ∙ d.long; lower = λ t. at t (dec_lt t (terms s)) }
    where
      by : (t : ℕ) → t < terms s → (b : Bool) → is_number s t ≡ b → ChildrenLower (action_of (word_kind (get_or new t 0))) t (get_or new t 0)
      by t l true e = rw (h.numbers t l e).kind_is (childless_lower t (get_or new t 0))
      by t l false e = same_lower t (λ _. e)

      at : (t : ℕ) → Dec (t < terms s) → ChildrenLower (action_of (word_kind (get_or new t 0))) t (get_or new t 0)
      at t (yes l) = by t l (is_number s t) refl
      at t (no l) = same_lower t (λ m. absurd (l m))
