use Rattle.std.proofs.Common.{ℕ, List}
use Rattle.codec.specs.Frames.{Frame}
use Rattle.script.specs.Code.{Script}
use Rattle.model.specs.Machine.{State}
use Rattle.runs.specs.Flat.{mem}
use Rattle.runs.specs.Leaves.{Leaves}
use Rattle.runs.specs.Running.{RunsOn}
use Rattle.runs.proofs.Advancing.{Gone}
use Rattle.runs.proofs.Core.advance.Given as goal

abbrev pub invariant-loop-given : goal.invariant-loop-given
invariant-loop-given g l = record {
  leaves : Leaves (mem l.initial.self l.initial.marks l.initial.entries) (mem l.self l.marks l.entries);
  runs : (sc : Script) (after : ℕ → List Frame) (s : State) → RunsOn l.inputs (mem l.initial.self l.initial.marks l.initial.entries) sc after s
      → Gone g.K.Lattice.order g.S.Scheduler.meaning l.inputs.table.now l.inputs.code.now l.inputs.samples.now l.n l.given (mem l.self l.marks l.entries) l.initial.scheduler l.scheduler sc after s;
}
