-- What the entry for the lean sheet returns and writes: a status, eight numbers, and the lean sheet at the front of a lent buffer. 02, W9.
use Rattle.std.specs.Prelude.{cond, List, [], ◌∷◌, ℕ}
use Rattle.replies.specs.Replies.{Reply, refusal, short, written, not_done, returned_reply}
use Rattle.erasure.specs.Erasure.{ErasureAnswer, refused, lean, AfterErasure, erasure}

-- "The answer tells the new sheet's length"; or the refusal's cause and place
abbrev pub erase_reply : ErasureAnswer → Reply
erase_reply (lean n) = record { status = 0; numbers = 0 ∷ 0 ∷ 0 ∷ n ∷ 0 ∷ 0 ∷ 0 ∷ 0 ∷ [] }
erase_reply (refused c p) = refusal c p

-- what an erasure returned and left
pub record EraseLeft : Type 0 where
  pub reply : Reply
  pub buffer : List ℕ

abbrev pub returned_erase : (status : ℕ) (answer buffer : List ℕ) → EraseLeft
returned_erase status answer b = record { reply = returned_reply status answer; buffer = b }

abbrev pub erase_left : (answer : List ℕ) → AfterErasure → EraseLeft
erase_left answer a = record { reply = written (erase_reply a.answer) answer; buffer = a.buffer }

-- A list for the answer of fewer than eight places: 3; nothing is done, and nothing is written anywhere.
abbrev pub erase_call : (s buffer answer : List ℕ) → EraseLeft
erase_call s b answer = cond (short answer) (record { reply = not_done answer; buffer = b }) (erase_left answer (erasure s b))
