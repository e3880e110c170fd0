-- What the contracts of the report's own functions say. No reader of the public promise needs this file.
use Rattle.std.specs.Prelude.{List, [], ◌≡◌, ℕ, ◌≤◌, leb, length, Result}
use Rattle.program.specs.Limits.{max_cells, max_posts}
use Rattle.typing.specs.Verdicts.{verdict}
use Rattle.semantics.specs.Runs.{Buffers, run}
use Rattle.interp.specs.Answers.{buffers_of}
use Rattle.text.specs.Text.{acceptance_text, program_request, of_run, printed}
use Rattle.drafts.specs.Internal.{contents, draft_bytes}
use Rattle.drafts.specs.declared.draft.Draft.{Draft}
use Rattle.report.specs.Reports.{after_report, delivered, buffers_after_report}
use Rattle.report.specs.declared.answer.Undelivered.{Undelivered}

-- buffers of the largest lengths
pub record LargestBuffers (cells posts : List ℕ) : Type 0 where
  pub cells_are : length cells ≡ max_cells
  pub posts_are : length posts ≡ max_posts

-- the text of an accepted sheet and its run, which leaves the buffers so
pub record RunReported (s : List ℕ) (terms type needs : ℕ) (b b' : Buffers) (r : Draft) : Type 0 where
  pub contents_are : contents r ≡ of_run (acceptance_text terms type needs) (run s program_request b).answer
  pub len_most : r.len ≤ draft_bytes
  pub buffers_are : b' ≡ (run s program_request b).buffers

pub record Rendered (s : List ℕ) (b b' : Buffers) (r : Draft) : Type 0 where
  pub contents_are : contents r ≡ printed s
  pub len_most : r.len ≤ draft_bytes
  pub buffers_are : b' ≡ buffers_after_report (verdict s) s b

-- whatever the other buffers hold
pub record Delivered (p text : List ℕ) (r : Result ℕ Undelivered) (text' : List ℕ) : Type 0 where
  pub leaves : (cells posts : List ℕ) → after_report r cells posts text' ≡ delivered (leb (length p) (length text)) p text (buffers_of cells posts [])
