-- `find` answers the lowest channel of which the closure says that the byte read is no guard (find_failing). The byte that is read is the sheet's, in version 1
-- that of no guard (guards_found).
use Rattle.std.proofs.Common.{Some, sym, ap, ◌∙◌, rules, tests}
use Rattle.program.specs.Limits.{max_channels}
use Rattle.program.specs.Decoding.{is_guard}
use Rattle.program.specs.Records.{guard_record}
use Rattle.program.specs.Search.{found_model}
use Rattle.program.proofs.Laws.Search.{find_failing}
use Rattle.decoder.proofs.DecodeLaws.{guards_found}
use Rattle.decoder.proofs.guards.bad_guard.Goals as goal

pub returns-in_err-channel : goal.returns-in_err-channel
returns-in_err-channel c =
    ap found_model c.from_residual.ensures ∙ ap found_model (sym c.in_err-channel.was)
    ∙ find_failing (λ channel. is_guard (guard_record c.args.s.now c.args.c channel)) max_channels _ _
    c.find.result c.find.ensures.ran (λ channel b q k. (search rules, search (rules, tests))) ∙ guards_found c.args.s.now c.args.c c.requires

pub returns : goal.returns
returns c =
    ap found_model (ap Some c.from.ensures ∙ sym c.in_ok-channel.was)
    ∙ find_failing (λ channel. is_guard (guard_record c.args.s.now c.args.c channel)) max_channels _ _
    c.find.result c.find.ensures.ran (λ channel b q k. (search rules, search (rules, tests))) ∙ guards_found c.args.s.now c.args.c c.requires
