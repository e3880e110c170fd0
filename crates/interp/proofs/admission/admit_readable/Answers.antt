-- A law for each way out, in the order of the screening: start stack (14), buffers (15), allowance (16), and an admitted run, of which all that has been
-- tested holds (Cleared).
use mathlib.Core.Path.{refl}
use Rattle.interp.proofs.AdmissionLaws.{start_refused, buffers_refused, limits_refused, admitted}
use Rattle.interp.proofs.admission.admit_readable.Goals as goal

pub returns-then-not-stack_ok : goal.returns-then-not-stack_ok
returns-then-not-stack_ok c =
    start_refused c.args.s.now c.args.start.now c.args.cells c.args.posts c.args.frames c.args.calls
    c.args.depth c.requires.readable c.requires.counts c.stack_ok.ensures refl refl c.if-not-stack_ok.true

pub returns-then-not-buffers_ok : goal.returns-then-not-buffers_ok
returns-then-not-buffers_ok c =
    buffers_refused c.args.s.now c.args.start.now c.args.cells c.args.posts c.args.frames c.args.calls
    c.args.depth c.requires.readable c.requires.counts c.stack_ok.ensures c.buffers_ok.ensures refl
    c.if-not-stack_ok.false c.if-not-buffers_ok.true

pub returns-then-not-limits_ok : goal.returns-then-not-limits_ok
returns-then-not-limits_ok c =
    limits_refused c.args.s.now c.args.start.now c.args.cells c.args.posts c.args.frames c.args.calls
    c.args.depth c.requires.readable c.requires.counts c.stack_ok.ensures c.buffers_ok.ensures
    c.limits_ok.ensures c.if-not-stack_ok.false c.if-not-buffers_ok.false c.if-not-limits_ok.true

pub returns : goal.returns
returns c =
    admitted c.args.s.now c.args.start.now c.args.cells c.args.posts c.args.frames c.args.calls
    c.args.depth c.requires.readable c.requires.counts c.stack_ok.ensures c.buffers_ok.ensures
    c.limits_ok.ensures c.if-not-stack_ok.false c.if-not-buffers_ok.false c.if-not-limits_ok.false
