-- The first t words are there, and the others zero, until all terms have theirs.
use Rattle.termtable.proofs.TableLaws.{filled_more, filled_whole}
use Rattle.termtable.proofs.decode_terms.Goals as goal

pub loop-t-preserved : goal.loop-t-preserved
loop-t-preserved c = filled_more c.requires.well_formed c.requires.counts c.loop-t-test.true c.term_word.ensures c.loop-t.invariant

pub returns : goal.returns
returns c = filled_whole c.requires.well_formed c.requires.counts c.loop-t-test.false c.loop-t.invariant
