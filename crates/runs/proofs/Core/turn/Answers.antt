use Rattle.std.proofs.Common.{refl, arith, length-take, rules}
use Rattle.runs.proofs.Advancing.{chosen_within, turn_runs}
use Rattle.runs.proofs.Core.turn.Goals as goal

pub take-requires : goal.take-requires
take-requires g c = record {
  runs = c.requires.runs;
  chosen = chosen_within g.S.Scheduler.meaning g.S.Scheduler.obeys _ _ c.args.self.now.head.threads c.choose-chosen.result (let few = c.args.self.now.few.0 in simp length-take (omega arith)) c.choose-chosen.ensures.answer;
  turns = c.requires.turns;
}

pub returns : goal.returns
returns g c =
    record {
      runs = turn_runs g.K.Lattice.order g.S.Scheduler.meaning c.args.inputs.table.now c.args.inputs.code.now c.args.inputs.samples.now c.args.self.now c.args.marks.now c.args.entries.now _ c.args.scheduler.now _ c.args.ready _ c.choose-chosen.result
          (search rules) c.requires.ready refl c.choose-chosen.ensures.answer c.choose-chosen.ensures.next c.take.ensures.runs;
      leaves = c.take.ensures.leaves;
    }
