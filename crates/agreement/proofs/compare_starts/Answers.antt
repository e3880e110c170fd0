-- `compare_starts` tells what the definition tells of the privilege, and gives its two runs, by the contracts of `names` and `run_either`. Where the two cell
-- stores have the same length, and the two lists of posts, the theorem of the definition's runs holds of these answers, which they equal (alike).
use Rattle.agreement.proofs.AgreementLaws.{alike}
use Rattle.agreement.proofs.compare_starts.Goals as goal

pub returns : goal.returns
returns c =
    record {
      named_value = c.names-named.ensures;
      first_run = c.run_either-first.ensures;
      second_run = c.run_either-second.ensures;
      irrelevance = alike c.args.sheet.now c.args.privilege c.args.calls c.args.depth c.args.start.now c.args.lazy
          c.args.cells.now c.args.posts.now c.args.frames.now c.args.start2.now c.args.lazy2
          c.args.cells2.now c.args.posts2.now c.args.frames2.now c.names-named.ensures
          c.run_either-first.ensures c.run_either-second.ensures;
    }
