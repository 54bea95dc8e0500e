use Rattle.std.proofs.Common.{◌≡◌}
use Rattle.runs.specs.Flat.{guard_marks}
use Rattle.runs.proofs.blocks.guard_of.Given as goal

abbrev pub invariant-loop-mark : goal.invariant-loop-mark
invariant-loop-mark g l = l.all ≡ guard_marks g.K.Lattice.order l.table l.marks l.x l.fn.blocks.base l.mark-index l.from
