use Rattle.std.proofs.Common.{◌-◌, ◌≤◌}
use Rattle.survey.specs.Filling.{Filled, Outside}
use Rattle.survey.proofs.tabulate.Given as goal

-- Behind the place that is reached stands no part of a thread, and every step before it is right.
abbrev pub invariant-loop-place : goal.invariant-loop-place
invariant-loop-place l = (l.place ≤ 512) × Outside l.slab l.place × Filled l.slab 0 l.place l.initial.table l.table

abbrev pub decreases-loop-place : goal.decreases-loop-place
decreases-loop-place l = 512 - l.place
