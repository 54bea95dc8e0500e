use Rattle.std.proofs.Common.{sym, ap, ◌∙◌}
use Rattle.runs.specs.Flat.{with_cells}
use Rattle.runs.proofs.Bounds.{same_run}
use Rattle.runs.proofs.Raising.{raised_none, raise_next}
use Rattle.runs.proofs.Core.raise.Goals as goal

pub loop-x-init : goal.loop-x-init
loop-x-init g c = ap (with_cells c.args.self.now) (sym (raised_none g.K.Lattice.order c.args.mask c.args.level c.args.self.now.cells))

pub loop-x-preserved : goal.loop-x-preserved
loop-x-preserved g c = same_run (with_cells c.loop-x.self _) _ ∙ raise_next g.K.Lattice.order c.args.mask c.args.level c.args.self.now c.loop-x.self c.loop-x.x c.raise_cell.result c.loop-x.invariant c.raise_cell.ensures
