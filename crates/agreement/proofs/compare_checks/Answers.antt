-- `compare_checks` gives the definition's verdict and its two runs, by the contracts of `typecheck` and `run_either`. Where the two cell stores have the same
-- length, and the two lists of posts, demand 3 holds of these answers: it is a theorem about the definition's runs, which they equal (agreed).
use Rattle.agreement.proofs.AgreementLaws.{agreed}
use Rattle.agreement.proofs.compare_checks.Goals as goal

pub returns : goal.returns
returns c =
    record {
      verdict_value = c.typecheck-verdict.ensures;
      first_run = c.run_either-first.ensures;
      second_run = c.run_either-second.ensures;
      agreement = agreed c.args.sheet.now c.args.start.now c.args.calls c.args.depth
          c.args.lazy c.args.lazy2 c.args.cells.now c.args.posts.now c.args.frames.now c.args.cells2.now
          c.args.posts2.now c.args.frames2.now c.typecheck-verdict.ensures c.run_either-first.ensures
          c.run_either-second.ensures;
    }
