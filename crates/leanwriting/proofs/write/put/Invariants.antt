-- `put` copies the bytes one by one. The invariant: the first i are written (pasted_more makes it one more).
use Rattle.leanwriting.proofs.WriteLaws.{Pasted}
use Rattle.leanwriting.proofs.write.put.Given as goal

abbrev pub invariant-loop-i : goal.invariant-loop-i
invariant-loop-i l = Pasted l.initial.buffer l.at l.bytes l.i l.buffer
