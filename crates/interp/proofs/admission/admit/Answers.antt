-- A refusal by the reader is what the screening tells (unreadable). A sheet that is read is readable with its own counts, as `admit_readable` requires,
-- and what that tells is told.
use Rattle.interp.proofs.AdmissionLaws.{unreadable, readable, counted}
use Rattle.std.specs.Prelude.{Err}
use Rattle.std.proofs.lemmas.Result.{err_from_is_err_and}
use Rattle.std.proofs.Common.{sym, ap, ◌∙◌, subst}
use Rattle.interp.specs.declared.answer.RunRefusal.{RunRefusal}
use Rattle.interp.specs.Internal.{Admits}
use Rattle.interp.proofs.admission.admit.Goals as goal

pub admit_readable-requires : goal.admit_readable-requires
admit_readable-requires c =
    record {
      readable = readable c.args.s.now c.args.start.now c.args.cells c.args.posts c.args.frames c.args.calls
          c.args.depth c.decode.ensures.answer_is c.in_ok-c.was;
      counts = counted c.args.s.now c.args.start.now c.args.cells
          c.args.posts c.args.frames c.args.calls c.args.depth c.in_ok-c.was c.decode.ensures.counts_are;
    }

pub returns-in_err-c : goal.returns-in_err-c
returns-in_err-c c =
    let p = err_from_is_err_and c.from_residual.result c.from_residual.ensures.1 in
    subst (Admits c.args.s.now c.args.start.now c.args.cells c.args.posts c.args.frames c.args.calls c.args.depth)
    (sym (p.1 ∙ ap (λ (r : RunRefusal). Err r) p.2))
    (unreadable c.args.s.now c.args.start.now c.args.cells c.args.posts c.args.frames c.args.calls
    c.args.depth c.decode.ensures.answer_is c.in_err-c.was)
