use Rattle.std.proofs.Common.{◌≡◌}
use Rattle.survey.proofs.Strides.{walked}
use Rattle.survey.proofs.around.walk_to.Given as goal

abbrev pub invariant-loop-p : goal.invariant-loop-p
invariant-loop-p l = l.walk ≡ walked l.table l.p
