-- Where `all` answers yes, the closure has said of each of the n records that one of its words is another; where it answers no, it has met a record whose two
-- words are those of t. Two records are the same exactly if their two words are (words_differ, words_same).
use Rattle.std.proofs.Common.{refl, arith, rules, tests}
use Rattle.std.proofs.lemmas.Iterator.{YieldsList-from_range, cases_from_all}
use Rattle.typerecords.proofs.TypeLaws.{OtherRecord, EqualRecord, compared}
use Rattle.typerecords.proofs.differs.Goals as goal

pub returns : goal.returns
returns c =
    compared c.args.s.now (record { below = λ i. (c.type_inv.s i).fits }) c.args.at c.args.t c.requires.table c.eight_bytes-eight.ensures
    c.two_bytes-two.ensures c.args.n c.all.result
    (cases_from_all _ _ _ (OtherRecord c.args.s.now c.args.at c.eight_bytes-eight.result c.two_bytes-two.result)
    (EqualRecord c.args.s.now c.args.at c.eight_bytes-eight.result c.two_bytes-two.result) c.all.ensures.ran
    (YieldsList-from_range 0 c.args.n c.args.n refl (omega arith)) (λ x q k. (search rules, search (rules, tests)))
    (λ x q k. (search (rules, tests), search (rules, tests))))
