-- A term is a number if its kind is 1; the record that is read is the term's (number_by).
use Rattle.pairs.proofs.PairLaws.{number_by}
use Rattle.pairs.proofs.is_number.Goals as goal

pub returns : goal.returns
returns c = number_by c.requires c.term.ensures
