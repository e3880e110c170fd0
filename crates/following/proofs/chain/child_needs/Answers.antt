-- A child that is there is judged, and the privilege looked for among its needs; a fault has none.
use Rattle.following.proofs.NextLaws.{typed_needs, fault_needs}
use Rattle.following.proofs.chain.child_needs.Goals as goal

pub returns-in-Err : goal.returns-in-Err
returns-in-Err c =
    rw c.in-Some.is
    (record { is = fault_needs c.args.s.now c.args.p _ c.infer.result c.infer.ensures.is c.in-Err.is; known = c.infer.ensures.known })

pub contains-requires : goal.contains-requires
contains-requires c = c.requires.privilege

pub returns-in-Ok : goal.returns-in-Ok
returns-in-Ok c =
    rw c.in-Some.is
    (record {
      is = typed_needs c.args.s.now c.args.p _ c.infer.result c.infer.ensures.is c.in-Ok.is c.contains.ensures;
      known = c.infer.ensures.known;
    })
