-- The three tests together are `placed_ok`: one law for each test that fails, and one where the last decides. What is noted for t tells whether it is a child
-- never, once or more often, since a parent that is noted lies above its child and below 1,024, and so is neither 0 nor 65535 (place_is).
use mathlib.Core.Bool.{false≢true}
use mathlib.Core.Path.{sym, ◌∙◌}
use native.Mathlib.Omega.{arith}
use Rattle.program.proofs.Laws.Readable.{fields_ok}
use Rattle.decoder.proofs.PlaceLaws.{parents_bad, body_bad, sign_left}
use Rattle.decoder.proofs.places.place_ok.Goals as goal
use Rattle.decoder.proofs.places.place_ok.Goals.{then-parents_ok, else-parents_ok}

pub bounds-parents-i : goal.bounds-parents-i
bounds-parents-i c = omega (arith, c.requires.inside, (fields_ok c.args.s.now c.requires.tables.laid.none_found).terms_high)

pub returns-then-body_signed : goal.returns-then-body_signed
returns-then-body_signed c = elim c.if-parents_ok.branch [
  | then-parents_ok w ↦ sign_left c.args.s.now c.args.c c.requires.tables.laid c.requires.tables.terms_ok c.args.t c.requires.inside
      c.args.parents.now c.requires.links c.parents_ok.ensures w.body_signed.ensures w.if-parents_ok.true
      (sym w.value-is ∙ c.if-body_signed.true) c.root_signed.ensures
  | else-parents_ok w ↦ absurd (false≢true (sym w.if-parents_ok.false ∙ sym w.value-is ∙ c.if-body_signed.true))
]

pub returns-else-body_signed : goal.returns-else-body_signed
returns-else-body_signed c = elim c.if-parents_ok.branch [
  | then-parents_ok w ↦ body_bad c.args.s.now c.args.c c.requires.tables.laid c.requires.tables.terms_ok c.args.t c.requires.inside
      c.args.parents.now c.requires.links c.parents_ok.ensures w.body_signed.ensures w.if-parents_ok.true
      (sym w.value-is ∙ c.if-body_signed.false) c.if-body_signed.false
  | else-parents_ok w ↦ parents_bad c.args.s.now c.args.c c.requires.tables.laid c.requires.tables.terms_ok c.args.t c.requires.inside
      c.args.parents.now c.requires.links c.parents_ok.ensures w.if-parents_ok.false (w.value-is ∙ w.if-parents_ok.false)
]
