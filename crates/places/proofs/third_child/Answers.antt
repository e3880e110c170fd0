-- Only a letrec, whose rest has the binding of its name, and an if have a third child.
use native.Mathlib.Omega.{arith}
use Rattle.places.proofs.PlaceLaws.{letrec_fits, third_letrec, third_if, no_third}
use Rattle.places.proofs.third_child.Goals as goal

pub push-outer-requires : goal.push-outer-requires
push-outer-requires c = let h = letrec_fits c.requires c.term-x.ensures c.in-4.is in omega arith

pub returns-in-4 : goal.returns-in-4
returns-in-4 c =
    third_letrec c.requires c.term-x.ensures c.in-4.is c.push-outer.ensures
    c.new.ensures

pub returns-in-6 : goal.returns-in-6
returns-in-6 c = third_if c.requires c.term-x.ensures c.in-6.is c.new-in-6.ensures

pub returns-in_default : goal.returns-in_default
returns-in_default c = no_third c.requires c.term-x.ensures (λ e. omega arith) (λ e. omega arith)
