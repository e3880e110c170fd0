-- The bit of the pair is set, by `insert`, and the rest of the table stays as it was.
use Rattle.subtyping.proofs.KnownLaws.{note_word}
use Rattle.subtyping.proofs.known.note.Goals as goal

pub returns : goal.returns
returns c =
    rw c.word_of-at.ensures (note_word c.args.known.now c.args.a c.args.b (rw c.word_of-at.ensures at c.insert.ensures))
