-- What a call tells of the sheet in the caller's buffer: the theorems of `erasure`, in the words of Entries.antt.
use Rattle.std.specs.Prelude.{Bool, true, false, cond, List, ◌++◌, ◌≡◌, refl, ℕ, get_or, take, drop}
use Rattle.std.proofs.Common.{sym, ap, subst, subst₂, arith}
use Rattle.replies.specs.Replies.{short, not_done}
use Rattle.erasure.specs.Erasure.{ErasureAnswer, refused, lean, erasure}
use Rattle.erasure.proofs.Theorems.{LeanOf, Wrote, Refused, wrote, written_sheet, refused_exactly, refused_untouched}
use Rattle.capi_lean.specs.Entries.{erase_reply, EraseLeft, erase_left, erase_call}

-- a number of the answer
abbrev pub entry : EraseLeft → ℕ → ℕ
entry x i = get_or x.reply.numbers i 0

-- The sheet was accepted, of version 1 and without tests. The first so many bytes of the buffer are now its lean sheet, which is accepted with the old type
-- and no needs and runs like the old one; the bytes after them are untouched.
pub record Lean (s buffer : List ℕ) (length : ℕ) (after : List ℕ) : Type 0 where
  pub bytes : Wrote s buffer after length
  pub sheet : LeanOf s (take length after) bytes.type bytes.needs

-- what the status tells: 0, and entry 3 is the length; 2, and entries 0 and 1 are the cause and the place of a refusal, which is the judge's, 32 or 33. Any
-- other than 0 leaves the buffer.
pub record StatusMeans (s buffer : List ℕ) (status : ℕ) (x : EraseLeft) : Type 0 where
  pub wrote_lean : status ≡ 0 → Lean s buffer (entry x 3) x.buffer
  pub refused_for : status ≡ 2 → Refused s buffer (entry x 0) (entry x 1)
  pub untouched : (status ≡ 0 → ⊥) → x.buffer ≡ buffer

module _ (s b answer : List ℕ) where
  numbers_at : (a : ErasureAnswer) → (erasure s b).answer ≡ a → (i : ℕ)
      → entry (erase_left answer (erasure s b)) i ≡ get_or ((erase_reply a).numbers ++ drop 8 answer) i 0
  numbers_at a e i = ap (λ (x : ErasureAnswer). get_or ((erase_reply x).numbers ++ drop 8 answer) i 0) e

  answer_status : (a : ErasureAnswer) → (erasure s b).answer ≡ a → StatusMeans s b (erase_reply a).status (erase_left answer (erasure s b))
  answer_status (lean n) e = record {
    wrote_lean = λ h. subst (λ (k : ℕ). Lean s b k (erasure s b).buffer) (sym (numbers_at (lean n) e 3))
        (record { bytes = wrote s b n e; sheet = written_sheet s b n e });
    refused_for = λ h. absurd (omega (arith, h));
    untouched = λ h. absurd (h refl);
  }
  answer_status (refused c p) e = record {
    wrote_lean = λ h. absurd (omega (arith, h));
    refused_for = λ h. subst₂ (Refused s b) (sym (numbers_at (refused c p) e 0)) (sym (numbers_at (refused c p) e 1)) ((refused_exactly s b c p).0 e);
    untouched = λ h. refused_untouched s b c p e;
  }

  short_answer : StatusMeans s b 3 (record { reply = not_done answer; buffer = b })
  short_answer = record { wrote_lean = λ h. absurd (omega (arith, h)); refused_for = λ h. absurd (omega (arith, h)); untouched = λ h. refl }

  pub status_means : StatusMeans s b (erase_call s b answer).reply.status (erase_call s b answer)
  status_means = go (short answer)
    where
      go : (k : Bool) → StatusMeans s b (cond k (record { reply = not_done answer; buffer = b }) (erase_left answer (erasure s b))).reply.status
          (cond k (record { reply = not_done answer; buffer = b }) (erase_left answer (erasure s b)))
      go true = short_answer
      go false = answer_status (erasure s b).answer refl
