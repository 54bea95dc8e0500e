use Rattle.std.proofs.Common.{◌≡◌, length}
use Rattle.runs.specs.Turns.{ReadyList, over_first}
use Rattle.runs.proofs.Core.survey.Given as goal

abbrev pub invariant-loop-i : goal.invariant-loop-i
invariant-loop-i g l =
    ReadyList g.K.Lattice.order l.inputs.table.now l.inputs.code.now l.inputs.samples.now l.self l.marks l.threads l.i
    × (length l.threads ≡ l.self.head.threads)
    × (l.over ≡ over_first g.K.Lattice.order l.inputs.table.now l.inputs.code.now l.inputs.samples.now l.self l.marks l.i)
