use Rattle.std.proofs.Common.{◌≡◌, T}
use Rattle.codec.specs.Operations.{left}
use Rattle.codec.specs.Sound.{declared}
use Rattle.model.specs.Values.{joined}
use Rattle.runs.specs.Flat.{cell_level, track_level, level_at, head_of_core}
use Rattle.runs.proofs.Core.level.Given as goal

abbrev pub invariant-loop-op : goal.invariant-loop-op
invariant-loop-op g l =
    T (declared (head_of_core l.self) (left l.op-iterator))
    × (joined g.K.Lattice.order (cell_level l.self) (track_level l.self) (left l.op-iterator) l.all ≡ level_at g.K.Lattice.order l.self l.code)
