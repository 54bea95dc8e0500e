use Rattle.std.proofs.Common.{◌≡◌}
use Rattle.runs.specs.Flat.{with_cells, raised}
use Rattle.runs.proofs.Core.raise.Given as goal

abbrev pub invariant-loop-x : goal.invariant-loop-x
invariant-loop-x g l = l.self ≡ with_cells l.initial.self (raised g.K.Lattice.order l.mask l.level l.initial.self.cells l.x)
