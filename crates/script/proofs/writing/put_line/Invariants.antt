use Rattle.script.proofs.Texting.{DigitsPut}
use Rattle.script.proofs.writing.put_line.Given as goal

abbrev pub invariant-loop-i : goal.invariant-loop-i
invariant-loop-i l = DigitsPut l.bytes l.initial.out l.n l.out l.i
