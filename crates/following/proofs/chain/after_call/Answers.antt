-- The function part is judged where the call stands. It has no fault, since the call needs the privilege; its type tells whether the call is a cause,
-- and else its needs whether it is the next place (function_next). If it is not, the argument is, which is not judged (argument_next).
use Rattle.following.proofs.NextLaws.{part_ready, part_faulty, part_type, call_ends, function_next, argument_next}
use Rattle.following.proofs.chain.after_call.Goals as goal

pub infer-requires : goal.infer-requires
infer-requires c = record { ready = part_ready c.requires c.term-x.ensures; known = c.requires.following.known }

pub returns-in_default : goal.returns-in_default
returns-in_default c = part_faulty c.requires c.term-x.ensures c.infer.result c.infer.ensures c.in_default.is

pub has_latent-requires : goal.has_latent-requires
has_latent-requires c = part_type c.requires c.term-x.ensures _ c.infer.ensures c.in-Ok.is

pub returns-then-has_latent : goal.returns-then-has_latent
returns-then-has_latent c =
    call_ends c.requires c.term-x.ensures _ c.infer.ensures c.in-Ok.is c.has_latent.ensures
    c.if-has_latent.true

pub returns-then-contains : goal.returns-then-contains
returns-then-contains c =
    function_next c.requires c.term-x.ensures _ c.infer.ensures c.in-Ok.is c.has_latent.ensures
    c.if-has_latent.false c.contains.ensures c.if-contains.true c.first_child.ensures

pub returns : goal.returns
returns c =
    argument_next c.requires c.term-x.ensures _ c.infer.ensures c.in-Ok.is c.has_latent.ensures
    c.if-has_latent.false c.contains.ensures c.if-contains.false c.second_child.ensures
