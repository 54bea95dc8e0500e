use Rattle.std.proofs.Common.{◌≡◌}
use Rattle.runs.specs.Flat.{guard_threads}
use Rattle.runs.proofs.Core.guard.Given as goal

abbrev pub invariant-loop-i : goal.invariant-loop-i
invariant-loop-i g l = l.all ≡ guard_threads g.K.Lattice.order l.table l.marks l.x l.self.threads l.i
