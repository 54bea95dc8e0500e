use Rattle.runs.proofs.Advancing.{rest_runs}
use Rattle.runs.proofs.Leaving.{leaves_moved}
use Rattle.runs.proofs.Core.take.Goals as goal

pub returns-in-None : goal.returns-in-None
returns-in-None g c = record {
  runs = λ sc after s runs. rest_runs g.K.Lattice.order c.args.inputs.table.now c.args.inputs.code.now c.args.inputs.samples.now c.args.self.now c.args.marks.now c.args.entries.now sc after s runs c.args.chosen _ c.in-None.is c.requires.turns;
  leaves = leaves_moved c.args.self.now c.args.marks.now c.args.entries.now _ _ _ _;
}
