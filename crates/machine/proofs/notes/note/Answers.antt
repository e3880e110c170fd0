-- An entry is made, or the record is full.
use Rattle.machine.proofs.NoteLaws.{note_made, note_full}
use Rattle.machine.proofs.notes.note.Goals as goal

pub returns-then-made-noted : goal.returns-then-made-noted
returns-then-made-noted c = note_made _ _ _ c.if-made-noted.true c.put_entry.ensures

pub returns-else-made-noted : goal.returns-else-made-noted
returns-else-made-noted c = note_full _ _ _ c.if-made-noted.false
