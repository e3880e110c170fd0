-- What the entry for a comparison leaves, from the promises of the functions that it calls.
use mathlib.Core.Bool.{cond, ◌||◌}
use mathlib.Core.List.{List}
use mathlib.Core.Path.{◌≡◌, sym, ap, ◌∙◌}
use Prim.Native.Nat.{ℕ, ◌<◌, ◌≤◌}
use native.Mathlib.Omega.{arith}
use lib.ListN.{length}
use borrow.Author.Tests.{lt-ltb, le-ltb}
use Rattle.traces.specs.Comparing.{comparison}
use Rattle.traces.proofs.Theorems.{fits_exactly, diverges_exactly}
use Rattle.traces.proofs.Laws.Records.{trace_length}
use Rattle.compare.specs.Answers.{comparison_model}
use Rattle.compare.specs.declared.answer.Comparison.{Comparison}
use Rattle.compare.specs.declared.answer.Comparison.TheVariants.{Fits, Diverges}
use Rattle.compare.specs.declared.answer.Malformed.{Malformed}
use Rattle.std.specs.Prelude.{Result, Ok, Err}
use Rattle.replies.specs.Replies.{returned_reply, not_done, replied}
use Rattle.replies.specs.Internal.{reply_model, Put}
use Rattle.replies.specs.Laws as replies
use Rattle.replies.specs.declared.Reply.{Reply}
use Rattle.capi_compare.specs.Entries.{comparison_reply, long, compare_call, max_record}
use Rattle.capi_compare.specs.Internal.{ComparisonReplyFits}

module _ (u o answer : List ℕ) where
  -- ---- a record is too long: it has more bytes than the largest number of 32 bits tells
  pub long_unit : max_record < length u → returned_reply 3 answer ≡ compare_call u o answer
  long_unit h = λ i. cond (sym (lt-ltb max_record (length u) h) i || long o) (not_done answer) (replied answer (comparison_reply (comparison u o)))

  pub long_office : length u ≤ max_record → max_record < length o → returned_reply 3 answer ≡ compare_call u o answer
  long_office g h = λ i.
      cond (sym (le-ltb max_record (length u) g) i || sym (lt-ltb max_record (length o) h) i) (not_done answer)
      (replied answer (comparison_reply (comparison u o)))

  module _ (g : length u ≤ max_record) (h : length o ≤ max_record) where
    held : replied answer (comparison_reply (comparison u o)) ≡ compare_call u o answer
    held = λ i.
        cond (sym (le-ltb max_record (length u) g) i || sym (le-ltb max_record (length o) h) i) (not_done answer)
        (replied answer (comparison_reply (comparison u o)))

    pub few_numbers : length answer < 8 → returned_reply 3 answer ≡ compare_call u o answer
    few_numbers l = replies.short_answer answer l (comparison_reply (comparison u o)) ∙ held

    -- ---- the number is one of entries
    pub few_entries : (x : Result Comparison Malformed) → comparison_model x ≡ comparison u o → ComparisonReplyFits x
    few_entries (Ok (Fits m)) e = omega (arith, ((fits_exactly u o m).0 (sym e)).1.missing_is, trace_length o)
    few_entries (Ok (Diverges k)) e = omega (arith, ((diverges_exactly u o k).0 (sym e)).1.an_entry, trace_length u)
    few_entries (Err m) e = omega arith

    pub given : 8 ≤ length answer → (x : Result Comparison Malformed) → comparison_model x ≡ comparison u o
        → {r : Reply} → reply_model r ≡ comparison_reply (comparison_model x)
        → {status : ℕ} {after : List ℕ} → Put r answer status after → returned_reply status after ≡ compare_call u o answer
    given l x e f put = replies.given answer l (f ∙ ap comparison_reply e) put ∙ held
