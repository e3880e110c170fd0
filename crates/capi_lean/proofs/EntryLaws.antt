-- What the entry for the lean sheet leaves, from the promises of the functions that it calls. Assumes nothing.
use mathlib.Core.Bool.{cond}
use mathlib.Core.List.{List}
use mathlib.Core.Path.{◌≡◌, sym, ap, ◌∙◌}
use Prim.Native.Nat.{ℕ, ◌<◌, ◌≤◌}
use lib.ListN.{length}
use borrow.Author.Tests.{lt-ltb, le-ltb}
use Rattle.std.specs.Prelude.{Result}
use Rattle.replies.specs.Internal.{reply_model, Put}
use Rattle.replies.specs.Laws.{in_place}
use Rattle.replies.specs.declared.Reply.{Reply}
use Rattle.erasure.specs.Erasure.{erasure}
use Rattle.erasure.specs.Answers.{erased_model}
use Rattle.erasure.specs.declared.answer.ErasureRefusal.{ErasureRefusal}
use Rattle.lean.specs.Answers.{after_erasure}
use Rattle.capi_lean.specs.Entries.{erase_reply, returned_erase, erase_left, erase_call}

module _ (s b answer : List ℕ) where
  -- the list for the answer is too short
  pub short_answer : length answer < 8 → returned_erase 3 answer b ≡ erase_call s b answer
  short_answer h = λ i. cond (sym (lt-ltb (length answer) 8 h) i) (returned_erase 3 answer b) (erase_left answer (erasure s b))

  -- it holds the reply
  pub given : 8 ≤ length answer → (r : Result ℕ ErasureRefusal) {b' : List ℕ} → after_erasure r b' ≡ erasure s b
      → {x : Reply} → reply_model x ≡ erase_reply (erased_model r)
      → {status : ℕ} {answer' : List ℕ} → Put x answer status answer' → returned_erase status answer' b' ≡ erase_call s b answer
  given h r {b' = b'} left_is e put =
      (λ i. record { reply = in_place answer h e put i; buffer = b' }) ∙ ap (erase_left answer) left_is
      ∙ (λ i. cond (sym (le-ltb (length answer) 8 h) i) (returned_erase 3 answer b) (erase_left answer (erasure s b)))
