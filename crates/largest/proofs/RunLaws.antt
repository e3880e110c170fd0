-- Runs, from the promises of the decoder and of the eager runner to that of a run whose buffers are asked for as the largest.
use mathlib.Core.Bool.{Bool, true, false}
use mathlib.Core.List.{List, []}
use mathlib.Core.Path.{◌≡◌, refl, sym, ap, ◌∙◌}
use Prim.Native.Nat.{ℕ}
use Rattle.std.specs.Prelude.{Err}
use Rattle.program.specs.Decoding.{decoding}
use Rattle.program.specs.Answers.{decoded_model}
use Rattle.program.specs.declared.answer.Refusal.{Refusal}
use Rattle.std.specs.Prelude.{Result, Ok, Err}
use Rattle.program.specs.declared.records.Counts.{Counts}
use Rattle.semantics.specs.Runs.{After, run}
use Rattle.interp.specs.Answers.{buffers_of, after, empty_stack_request}
use Rattle.interp.specs.declared.answer.RunRefusal.TheVariants.{Unreadable, Buffers as BadBuffers}
use Rattle.largest.specs.Largest.{largest_run}
use Rattle.largest.specs.Theorems.{unreadable_first, other_length, same_run}

-- ---- the buffers have the lengths asked for, or not
module _ (s : List ℕ) (calls : ℕ) (cells posts : List ℕ) where
  abbrev largest_after : Bool → After
  largest_after right = largest_run right s (empty_stack_request calls) (buffers_of cells posts [])

  module _ (right : Bool) where
    pub as_run : {x : After} → right ≡ true → x ≡ run s (empty_stack_request calls) (buffers_of cells posts []) → x ≡ largest_after right
    as_run e h = h ∙ sym (ap largest_after e ∙ same_run s (empty_stack_request calls) (buffers_of cells posts []))

    module _ {d : Result Counts Refusal} (p : decoded_model d ≡ decoding s) where
      pub as_unreadable : {f : Refusal} → d ≡ Err f → after (Err (Unreadable f)) cells posts [] ≡ largest_after right
      as_unreadable e = sym (unreadable_first s (empty_stack_request calls) (buffers_of cells posts []) right _ _ (sym p ∙ ap decoded_model e))

      pub as_buffers : {c : Counts} → right ≡ false → d ≡ Ok c → after (Err BadBuffers) cells posts [] ≡ largest_after right
      as_buffers f e = sym (ap largest_after f ∙ other_length s (empty_stack_request calls) (buffers_of cells posts []) (sym p ∙ ap decoded_model e) refl)
