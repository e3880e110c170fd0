-- The library adds the bytes up, each times what it is worth; that is the word of two (word_2).
use Rattle.typerecords.proofs.WordLaws.{word_2}
use Rattle.typerecords.proofs.two_bytes.Goals as goal

pub returns : goal.returns
returns c = word_2 c.args.s.now c.args.at c.from_le_bytes.ensures
