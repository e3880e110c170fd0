-- The library adds the bytes up, each times what it is worth; that is the word of eight (word_8).
use Rattle.typerecords.proofs.WordLaws.{word_8}
use Rattle.typerecords.proofs.eight_bytes.Goals as goal

pub returns : goal.returns
returns c = word_8 c.args.s.now c.args.at c.from_le_bytes.ensures
