use Rattle.std.proofs.Common.{length}
use Rattle.script.proofs.Filling.{Filled}
use Rattle.script.proofs.reading.fill.Given as goal

abbrev pub invariant-loop-rest : goal.invariant-loop-rest
invariant-loop-rest g l = Filled g.K.Lattice.kind g.K.Lattice.order l.lines l.state l.rest l.slab l.initial.slab

abbrev pub decreases-loop-rest : goal.decreases-loop-rest
decreases-loop-rest g l = length l.rest
