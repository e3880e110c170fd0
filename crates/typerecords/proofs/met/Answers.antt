-- Where `any` answers no, the closure has said of each of the n records that its word is another.
use Rattle.std.proofs.Common.{◌≡◌, ◌+◌, ◌*◌, refl, arith, rules, tests}
use Rattle.std.proofs.iter.Next.{if_no}
use Rattle.std.proofs.lemmas.Iterator.{YieldsList-from_range, cases_from_any}
use Rattle.typerecords.specs.Internal.{le_word}
use Rattle.typerecords.proofs.RangeLaws.{each_number}
use Rattle.typerecords.proofs.met.Goals as goal

pub returns : goal.returns
returns c = λ e. each_number c.args.n (λ k. le_word c.args.s.now (c.args.i + 10 * k) 8 ≡ c.args.eight → ⊥)
    (if_no _ _ e (cases_from_any _ _ _ (λ k. Unit {0}) (λ k. le_word c.args.s.now (c.args.i + 10 * k) 8 ≡ c.args.eight → ⊥)
    c.any.ensures.ran (YieldsList-from_range 0 c.args.n c.args.n refl (omega arith)) (λ x q k. tt) (λ x q k. search (rules, tests))))
