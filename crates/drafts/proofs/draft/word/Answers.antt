-- `word` copies the bytes of s to the array behind those of the text (take-put_mid): up to the new end these are the text's, as they were, and then those
-- of s. They fit, by the precondition.
use Rattle.std.proofs.Common.{◌∙◌, ap, arith, List, ℕ, ◌+◌, ◌++◌, length, take}
use Rattle.std.proofs.lemmas.Slice.{take-put_mid}
use Rattle.drafts.proofs.draft.word.Goals as goal

pub returns : goal.returns
returns c =
    record {
      contents_are = take-put_mid c.args.d.now.len _ c.args.d.now.bytes c.copy_from_slice.new.self (c.args.d.now.len + length c.args.s.now)
          (omega (arith, ap length c.copy_from_slice.ensures.after)) (omega (arith, c.requires))
          ∙ ap (λ (xs : List ℕ). take c.args.d.now.len c.args.d.now.bytes ++ xs) c.copy_from_slice.ensures.after;
      len_most = omega arith;
    }
