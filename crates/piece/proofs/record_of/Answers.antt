-- The record lies in the sheet (ends_inside), and the part that is returned is the record.
use Rattle.piece.proofs.LocateLaws.{ends_inside}
use Rattle.piece.proofs.record_of.Goals as goal

pub slice_bounds-result-end : goal.slice_bounds-result-end
slice_bounds-result-end c = ends_inside c.args.sheet.now c.locate-x.ensures
