use Rattle.std.proofs.Common.{◌-◌}
use Rattle.script.proofs.Searching.{Found}
use Rattle.script.proofs.finding.holds.Given as goal

abbrev pub invariant-loop-state : goal.invariant-loop-state
invariant-loop-state g l = Found g.K.Lattice.kind g.K.Lattice.order l.slab l.state

abbrev pub decreases-loop-state : goal.decreases-loop-state
decreases-loop-state g l = 512 - l.state.frames
