use Rattle.std.proofs.Common.{length}
use Rattle.protocol.proofs.Parting.{Gone}
use Rattle.protocol.proofs.intake.split_script.Given as goal

abbrev pub invariant-loop-line : goal.invariant-loop-line
invariant-loop-line l = Gone l.text l.rest

abbrev pub decreases-loop-line : goal.decreases-loop-line
decreases-loop-line l = length l.rest
