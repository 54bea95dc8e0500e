use Rattle.std.proofs.Common.{◌+◌}
use Rattle.runs.proofs.Taking.{runs_fit, turn_of_leaves, turn_of_runs}
use Rattle.runs.proofs.Core.turn_of.Goals as goal

pub step-requires : goal.step-requires
step-requires g c = record {
  fit = runs_fit c.args.inputs.table.now c.args.inputs.code.now c.args.inputs.samples.now c.args.self.now c.args.marks.now c.args.entries.now c.args.i c.requires.thread.0 c.requires.runs;
  tracks = c.requires.runs.3.fed;
}

pub returns : goal.returns
returns g c = record {
  runs =
      turn_of_runs c.args.inputs.table.now c.args.inputs.code.now c.args.inputs.samples.now c.args.self.now c.args.marks.now c.args.entries.now c.args.i c.requires.thread.0
      g.K.Lattice.order _ _ c.requires.thread.1 c.step.ensures;
  leaves =
      turn_of_leaves c.args.inputs.table.now c.args.inputs.code.now c.args.inputs.samples.now c.args.self.now c.args.marks.now c.args.entries.now c.args.i c.requires.thread.0
      g.K.Lattice.order _ (c.args.self.now.turns + 1) _ c.step.ensures c.requires.runs;
}
