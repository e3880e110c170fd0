-- `main` has no contract. Shown is that the parts of the buffers that it lends are within them: `read_full` reads no more bytes than the sheet's buffer has,
-- and a text that `report` has written is no longer than the place for it (text_written).
use mathlib.Core.Path.{sym}
use lib.Seq.{length-take-le}
use Rattle.report.specs.Theorems.{text_written}
use Rattle.sovzedal.proofs.main.Goals as goal

pub slice_bounds-text-end : goal.slice_bounds-text-end
slice_bounds-text-end c = (text_written _ _ _ _ _ _ c.in-Ok.is c.report-reported.ensures).fits

pub slice_bounds-print-end : goal.slice_bounds-print-end
slice_bounds-print-end c = sym (length-take-le _ _ (text_written _ _ _ _ _ _ c.in-Ok.is c.report-reported.ensures).fits)
