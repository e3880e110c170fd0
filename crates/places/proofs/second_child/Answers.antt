-- By the kind. There is room for the bindings of a body: one of a function's, two of a letrec's.
use native.Mathlib.Omega.{arith}
use Rattle.places.proofs.PlaceLaws.{function_fits, letrec_fits, second_function, second_letrec, no_second_leaf, second_call, no_second_one, second_same, no_second_post}
use Rattle.places.proofs.second_child.Goals as goal

pub push-inner-requires : goal.push-inner-requires
push-inner-requires c = function_fits c.requires c.term-x.ensures c.in-3.is

pub push-outer-requires : goal.push-outer-requires
push-outer-requires c = let h = letrec_fits c.requires c.term-x.ensures c.in-4.is in omega arith

pub push-inner-requires-in-4 : goal.push-inner-requires-in-4
push-inner-requires-in-4 c = let h = letrec_fits c.requires c.term-x.ensures c.in-4.is in omega (arith, c.push-outer.ensures.len_is)

pub returns-in-3 : goal.returns-in-3
returns-in-3 c =
    second_function c.requires c.term-x.ensures c.in-3.is c.type_record-f.ensures
    c.push-inner.ensures c.new.ensures

pub returns-in-4 : goal.returns-in-4
returns-in-4 c =
    second_letrec c.requires c.term-x.ensures c.in-4.is c.push-outer.ensures
    c.type_record-f-in-4.ensures c.push-inner-in-4.ensures c.new-in-4.ensures

pub returns-in-0-to-2 : goal.returns-in-0-to-2
returns-in-0-to-2 c = no_second_leaf c.requires c.term-x.ensures (omega arith)

pub returns-in-5-to-6 : goal.returns-in-5-to-6
returns-in-5-to-6 c =
    second_call c.requires c.term-x.ensures c.new-in-5-to-6.ensures
    (omega arith) (omega arith)

pub returns-in-7-to-9 : goal.returns-in-7-to-9
returns-in-7-to-9 c = no_second_one c.requires c.term-x.ensures (omega arith) (omega arith)

pub returns-in-10-to-13 : goal.returns-in-10-to-13
returns-in-10-to-13 c = second_same c.requires c.term-x.ensures c.new-in-10-to-13.ensures (omega arith) (omega arith)

pub returns-in_default : goal.returns-in_default
returns-in_default c = no_second_post c.requires c.term-x.ensures (omega arith)
