-- The type is written behind the first `len` and counted, so that it is the nearest of the context and the others stay (push_context). `len` is below
-- 32, the array's length.
use native.Mathlib.Omega.{arith}
use mathlib.Core.Path.{refl}
use Rattle.rules.proofs.BindingLaws.{push_context}
use Rattle.rules.proofs.bindings.push.Goals as goal

pub returns : goal.returns
returns c =
    record {
      context_is = push_context c.args.b.types c.args.b.len c.args.ty
          (omega (arith, c.requires));
      len_is = refl;
    }
