-- From the tally of the root to the whole run over ranges: the refinement theorem at the start that the run makes. And how a run is turned back.
use mathlib.Core.Bool.{Bool, true, false, cond}
use mathlib.Core.List.{List, [], ◌∷◌}
use Rattle.std.specs.Prelude.{Result, Ok, Err}
use mathlib.Core.Option.{none, some}
use mathlib.Core.Path.{◌≡◌, refl, sym, ap, ◌∙◌}
use Prim.Native.Nat.{ℕ, ◌-◌, ◌<◌, ◌≤◌}
use native.Mathlib.Omega.{arith}
use lib.ListN.{length}
use borrow.Author.Tests.{lt-ltb, ne_eqb}
use Rattle.program.specs.Layout.{authority, root}
use Rattle.program.specs.Screening.{clear, found, screen, unless, none_next, none_end, first_here}
use Rattle.program.proofs.Laws.Screening.{none_clear, first_found, none_unless, found_unless, screen_clear, screen_found}
use Rattle.program.specs.declared.records.Counts.{Counts}
use Rattle.semantics.specs.Access.{privs}
use Rattle.semantics.specs.Meaning.{plain}
use Rattle.semantics.specs.Runs.{eager, Request, sizes, stack, run_conditions, evaluation_over, ran}
use Rattle.intervals.specs.Pairs.{pairs_ok, over_intervals}
use Rattle.intervals.specs.Runs.{interval_conditions, interval_run}
use Rattle.intervals.proofs.Theorems.{run_clear, run_found, few_clear}
use Rattle.stores.specs.declared.values.Stop.{Stop}
use Rattle.refinement.specs.Claims.{decided_by, interval_outcome_of, IntervalTable}
use Rattle.refinement.proofs.Theorems.{interval_refined}
use Rattle.interp.specs.Answers.{refusal_cause, refusal_place, counts_model, request_of, buffers_of}
use Rattle.interp.specs.Internal.{Cleared, Admits, StartAccess, root_done, Tallied}
use Rattle.interp.specs.Laws.{access_authorised, access_is, tallied_at, tallied_after}
use Rattle.interp.specs.declared.answer.RunRefusal.{RunRefusal}
use Rattle.interp.specs.declared.answer.Tally.{Tally}
use Rattle.ranges.specs.Answers.{interval_outcome_model, IntervalRun, after_intervals}
use Rattle.ranges.specs.declared.answer.IntervalGround.{IntervalGround}
use Rattle.ranges.specs.declared.answer.IntervalRefusal.{IntervalRefusal}
use Rattle.ranges.specs.declared.answer.IntervalRefusal.TheVariants.{Run, Pairs}

-- ---- what a boolean's payload says
pub is_undecided : (n : ℕ) → n ≡ 2 → none ≡ decided_by n
is_undecided n e = ap decided_by (sym e)

pub is_yes : (n : ℕ) → (n ≡ 2 → ⊥) → 0 < n → some true ≡ decided_by n
is_yes n h l = λ i. cond (sym (ne_eqb n 2 h) i) none (some (sym (lt-ltb 0 n l) i))

pub is_no : (n : ℕ) → n ≤ 0 → some false ≡ decided_by n
is_no n l = ap decided_by {x = 0} {y = n} (omega arith)

module _ (s ps start : List ℕ) (e : Bool) (cells posts : List ℕ) (calls depth : ℕ) where
  abbrev request : Request
  request = request_of eager e start calls depth

  -- ---- a run that is turned back
  rejected_run : (f : RunRefusal) → screen (run_conditions s request (sizes (buffers_of cells posts []))) ≡ found (refusal_cause f) (refusal_place f)
      → after_intervals (Err (Run f)) cells posts ≡ interval_run s ps request (buffers_of cells posts [])
  rejected_run f h =
      let b = buffers_of cells posts [] in
      sym (run_found s ps request b (refusal_cause f) (refusal_place f)
      (screen_found (run_conditions s request (sizes b)) (unless 35 (pairs_ok s ps) ∷ []) (refusal_cause f) (refusal_place f) h))

  -- at the exit of a `?`: r is the refusal that is handed on
  pub run_refused : {r : IntervalRun} {x : IntervalRefusal} {f : RunRefusal} → r ≡ Err x → x ≡ Run f
      → Admits s start (length cells) (length posts) true calls depth (Err f)
      → after_intervals r cells posts ≡ interval_run s ps request (buffers_of cells posts [])
  run_refused {f = f} e same h =
      ap (λ (y : IntervalRun). after_intervals y cells posts) (e ∙ ap (λ (y : IntervalRefusal). Err y) same) ∙ rejected_run f h

  module _ {c : Counts} where
    module _ (K : Cleared s start (length cells) (length posts) true calls depth c) where
      -- by 35
      pub pairs_refused : pairs_ok s ps ≡ false → after_intervals (Err Pairs) cells posts ≡ interval_run s ps request (buffers_of cells posts [])
      pairs_refused n =
          let b = buffers_of cells posts [] in
          sym (run_found s ps request b 35 0
          (screen_clear (run_conditions s request (sizes b)) (unless 35 (pairs_ok s ps) ∷ []) K.none_found
          ∙ first_found (first_here refl (found_unless 35 n))))

      -- ---- a run that starts, with the pairs in the words of its terms
      pub intervals_after : pairs_ok s ps ≡ true → (store noted : List ℕ) {terms : List ℕ} {access : ℕ} {t : Tally} (o : Result IntervalGround Stop)
          {cells' posts' frames' noted' : List ℕ}
          → IntervalTable s c ps terms → StartAccess s start access
          → Tallied calls (root_done terms (c.terms - 1) (record { lazy = false; enforce = e; intervals = true }) access calls depth
          (buffers_of cells posts store) noted) t (buffers_of cells' posts' frames') noted'
          → interval_outcome_model o ≡ interval_outcome_of (c.terms - 1) t.word
          → after_intervals (Ok (record { outcome = o; made = t.made })) cells' posts' ≡ interval_run s ps request (buffers_of cells posts [])
      intervals_after ok store noted {terms} {t = t} o {cells' = cells'} {posts' = posts'} table a v outcome-is =
          let b = buffers_of cells posts [] in
          let w = K.well_formed in
          let x = evaluation_over (over_intervals s ps) (plain e) eager s request (sizes b) in
          let clear_of : screen (interval_conditions s ps request (sizes b)) ≡ clear =
          screen_clear (run_conditions s request (sizes b)) (unless 35 (pairs_ok s ps) ∷ []) K.none_found
          ∙ none_clear (none_next (none_unless 35 ok) none_end) in
          let at-root = outcome-is ∙ ap (λ (n : ℕ). interval_outcome_of (n - 1) t.word) K.counts.terms_are in
          let refined =
          interval_refined s w c K.counts ps terms table request (buffers_of cells posts store) noted K.depth_most K.cells_most _
          refl refl a.authorised (privs (authority s) (stack start)) refl a.authorised_small (access_authorised w a) in
          (λ i. record { answer = ran (at-root i) (counts_model t.made); buffers = buffers_of cells' posts' [] })
          ∙ tallied_after (root s) request cells posts [] store x interval_outcome_of (few_clear s ps request b clear_of).saturated_most
          (tallied_at K.counts terms _ calls depth (buffers_of cells posts store) noted (access_is w a K.all_known) v) refined refl
          ∙ sym (run_clear s ps request b clear_of)
