use Rattle.std.proofs.Common.{◌≡◌}
use Rattle.runs.specs.Statuses.{against_first}
use Rattle.runs.proofs.Core.against.Given as goal

abbrev pub invariant-loop-j : goal.invariant-loop-j
invariant-loop-j l = l.all ≡ against_first l.table l.marks l.i l.self.threads l.j
