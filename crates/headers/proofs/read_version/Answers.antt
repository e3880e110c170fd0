-- The first field's fault is the first that is found; where it has none, its two bytes are inside, and are the version. Versions 1 and 2 have their
-- channels (version_known), any other is refusal 3 (version_unknown).
use native.Mathlib.Omega.{arith}
use mathlib.Core.Path.{refl}
use Rattle.std.proofs.lemmas.Result.{err_from_is_err_and}
use Rattle.headers.proofs.FieldLaws.{first_fault, version_known, version_unknown}
use Rattle.headers.proofs.read_version.Goals as goal

pub returns-in_err-read_field : goal.returns-in_err-read_field
returns-in_err-read_field c =
    let p = err_from_is_err_and c.from_residual.result c.from_residual.ensures.1 in
    rw (p.1, p.2) (first_fault c.args.s.now c.in_err-read_field.ensures)

pub be16-version-requires : goal.be16-version-requires
be16-version-requires c = omega (arith, c.in_ok-read_field.ensures.inside, c.in_ok-read_field.ensures.least_are)

pub returns-in-1 : goal.returns-in-1
returns-in-1 c = version_known c.args.s.now c.in_ok-read_field.ensures.none_found c.be16-version.ensures 1 c.in-1.is refl

pub returns-in-2 : goal.returns-in-2
returns-in-2 c = version_known c.args.s.now c.in_ok-read_field.ensures.none_found c.be16-version.ensures 2 c.in-2.is refl

pub returns-in_default : goal.returns-in_default
returns-in_default c =
    version_unknown c.args.s.now c.in_ok-read_field.ensures.none_found c.be16-version.ensures (λ e. omega arith) (λ e. omega arith)
