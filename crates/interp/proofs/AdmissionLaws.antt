-- Whether a run may start, from the reader's answer and the three tests that follow it.
use mathlib.Core.Bool.{Bool, true, false, ◌&&◌}
use mathlib.Core.List.{List, [], ◌∷◌}
use mathlib.Core.Path.{◌≡◌, sym, ap, ◌∙◌, subst}
use Prim.Native.Nat.{ℕ, ◌%◌}
use lib.Dec.{leb}
use lib.ListN.{length}
use borrow.Author.Tests.{leb-true, eqb-true}
use Rattle.semantics.specs.Runs.{stack_ok}
use Rattle.privileges.specs.Booleans.{and_left, and_right}
use Rattle.program.specs.Limits.{max_start, max_cells, max_posts, max_calls, max_depth}
use Rattle.program.specs.Layout.{principals}
use Rattle.program.specs.Records.{CountsOf}
use Rattle.program.specs.Screening.{Condition, Screening, found, refuse_at, screen, unless}
use Rattle.program.specs.Decoding.{decoding_conditions, decoding, Readable}
use Rattle.program.specs.Answers.{decoding_cause, decoding_place, decoded_model, Counted}
use Rattle.program.proofs.Laws.Screening.{screen_clear, screen_found}
use Rattle.program.proofs.Laws.Readable.{well_formed}
use Rattle.program.specs.declared.answer.Refusal.{Refusal}
use Rattle.std.specs.Prelude.{Result, Ok, Err}
use Rattle.program.specs.declared.records.Counts.{Counts}
use Rattle.interp.specs.Internal.{conditions, Cleared}

-- the caller's part of the conditions
abbrev callers : (start buffers limits : Bool) → List Condition
callers a b d = unless 14 a ∷ unless 15 b ∷ unless 16 d ∷ []

module _ (s start : List ℕ) (cells posts : ℕ) (frames : Bool) (calls depth : ℕ) where
  abbrev outcome : Screening
  outcome = screen (conditions s start cells posts frames calls depth)

  -- ---- a sheet that cannot be read
  module _ {d : Result Counts Refusal} (p : decoded_model d ≡ decoding s) where
    pub unreadable : {f : Refusal} → d ≡ Err f → outcome ≡ found (decoding_cause f) (decoding_place f)
    unfolding decoding
    unreadable {f = f} e = screen_found (decoding_conditions s) _ (decoding_cause f) (decoding_place f) (sym p ∙ ap decoded_model e)

    pub readable : {c : Counts} → d ≡ Ok c → Readable s
    readable e = sym p ∙ ap decoded_model e

  pub counted : {d : Result Counts Refusal} {c : Counts} → d ≡ Ok c → Counted s d → CountsOf s c
  counted e k = subst (Counted s) e k

  -- ---- a readable one
  module _ (r : Readable s) {c : Counts} (k : CountsOf s c) {a b d : Bool} (at-start : a ≡ stack_ok c.principals start)
      (of-buffers : b ≡ (leb cells max_cells && leb posts max_posts && frames)) (of-limits : d ≡ (leb calls max_calls && leb depth max_depth)) where
    start_is : stack_ok (principals s) start ≡ a
    start_is = sym (at-start ∙ ap (λ (n : ℕ). stack_ok n start) k.principals_are)

    answered_by : outcome ≡ screen (callers a b d)
    unfolding decoding
    answered_by = screen_clear (decoding_conditions s) _ r ∙ (λ i. screen (callers (start_is i) (sym of-buffers i) (sym of-limits i)))

    pub start_refused : a ≡ false → outcome ≡ found 14 0
    unfolding screen refuse_at
    start_refused e = answered_by ∙ (λ i. screen (callers (e i) b d))

    pub buffers_refused : a ≡ true → b ≡ false → outcome ≡ found 15 0
    unfolding screen refuse_at
    buffers_refused e f = answered_by ∙ (λ i. screen (callers (e i) (f i) d))

    pub limits_refused : a ≡ true → b ≡ true → d ≡ false → outcome ≡ found 16 0
    unfolding screen refuse_at
    limits_refused e f g = answered_by ∙ (λ i. screen (callers (e i) (f i) (g i)))

    pub admitted : a ≡ true → b ≡ true → d ≡ true → Cleared s start cells posts frames calls depth c
    unfolding screen refuse_at
    admitted e f g =
        let start_right : stack_ok (principals s) start ≡ true = start_is ∙ e in
        let buffers-right : (leb cells max_cells && leb posts max_posts && frames) ≡ true = sym of-buffers ∙ f in
        let limits-right : (leb calls max_calls && leb depth max_depth) ≡ true = sym of-limits ∙ g in
        record {
          none_found = answered_by ∙ (λ i. screen (callers (e i) (f i) (g i)));
          well_formed = well_formed s r;
          counts = k;
          whole = record {
            few = leb-true (length start) max_start (search (and_left, and_right));
            even = eqb-true (length start % 2) 0 (search (and_left, and_right));
          };
          all_known = search (and_left, and_right);
          cells_most = leb-true cells max_cells (search (and_left, and_right));
          frames_right = search (and_left, and_right);
          depth_most = leb-true depth max_depth (search (and_left, and_right));
        }
