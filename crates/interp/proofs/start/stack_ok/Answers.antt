-- A law for each test of refusal 14: more than 32 numbers, which are 16 frames of two; half a frame; and, of whole frames, the principals.
use mathlib.Core.Path.{◌∙◌}
use Rattle.interp.proofs.StartLaws.{start_long, start_half, start_whole}
use Rattle.interp.proofs.start.stack_ok.Goals as goal

pub returns-then-start-gt-MAX_START : goal.returns-then-start-gt-MAX_START
returns-then-start-gt-MAX_START c = start_long c.args.count c.args.start.now c.if-start-gt-MAX_START.true

pub returns-then-start-ne0 : goal.returns-then-start-ne0
returns-then-start-ne0 c = start_half c.args.count c.args.start.now c.if-start-gt-MAX_START.false c.if-start-ne0.true

pub principals_known-requires : goal.principals_known-requires
principals_known-requires c = record { few = c.if-start-gt-MAX_START.false; even = c.if-start-ne0.false }

pub returns : goal.returns
returns c = c.principals_known.ensures ∙ start_whole c.args.count c.args.start.now c.if-start-gt-MAX_START.false c.if-start-ne0.false
