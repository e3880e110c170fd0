-- `report` gives and leaves what `reported` says. Where the cell store (other_cells) or the list of posts (other_posts) has another length than the largest,
-- the answer is `Unfit` and nothing is touched; else `render` makes the printed text and runs the sheet, and `deliver` copies the text (all_reported).
use Rattle.std.proofs.Common.{List, ℕ, subst}
use Rattle.report.specs.Internal.{Delivered}
use Rattle.report.proofs.ReportLaws.{other_cells, other_posts, all_reported}
use Rattle.report.proofs.report.Goals as goal

pub returns-then-cells-ne-MAX_CELLS : goal.returns-then-cells-ne-MAX_CELLS
returns-then-cells-ne-MAX_CELLS c = other_cells c.args.sheet.now c.args.cells.now c.args.posts.now c.args.text.now c.if-cells-ne-MAX_CELLS.true

pub returns-then-posts-ne-MAX_POSTS : goal.returns-then-posts-ne-MAX_POSTS
returns-then-posts-ne-MAX_POSTS c = other_posts c.args.sheet.now c.args.cells.now c.args.posts.now c.args.text.now c.if-cells-ne-MAX_CELLS.false
    c.if-posts-ne-MAX_POSTS.true

pub returns : goal.returns
returns c =
    all_reported c.args.sheet.now c.args.cells.now c.args.posts.now c.args.text.now c.if-cells-ne-MAX_CELLS.false c.if-posts-ne-MAX_POSTS.false
    c.render-d.ensures (subst (λ (d : List ℕ). Delivered d c.args.text.now c.deliver.result c.deliver.new.text) c.as_bytes.ensures c.deliver.ensures)
