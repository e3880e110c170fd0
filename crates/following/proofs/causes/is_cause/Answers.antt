-- By the kind: a letrec is one if the latent set of its type, which is a function's, has the privilege; a check if it names it, and a post if it is guarded
-- by it. No other kind is, and the term is no call.
use Rattle.places.proofs.PlaceLaws.{letrec_function}
use Rattle.following.proofs.CauseLaws.{letrec_cause, check_cause, post_cause, no_cause}
use Rattle.std.proofs.Common.{arith}
use Rattle.following.proofs.causes.is_cause.Goals as goal

pub has_latent-requires : goal.has_latent-requires
has_latent-requires c =
    record {
      sheet = c.requires.ready.sheet;
      is_function = letrec_function c.requires.ready c.term-x.ensures c.in-4.is;
      privilege = c.requires.privilege;
    }

pub returns-in-4 : goal.returns-in-4
returns-in-4 c = letrec_cause c.requires.ready c.term-x.ensures _ c.in-4.is c.has_latent.ensures

pub returns-in-7 : goal.returns-in-7
returns-in-7 c = check_cause c.requires.ready c.term-x.ensures _ c.in-7.is

pub returns-in-14 : goal.returns-in-14
returns-in-14 c = post_cause c.requires.ready c.term-x.ensures _ c.in-14.is c.requires.privilege c.guard.ensures

pub returns-in_default : goal.returns-in_default
returns-in_default c = no_cause c.requires.ready c.term-x.ensures _ c.requires.no_call (λ e. omega arith) (λ e. omega arith) (λ e. omega arith)
