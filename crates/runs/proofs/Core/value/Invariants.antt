use Rattle.std.proofs.Common.{◌≡◌, ◌≤◌, T, []}
use Rattle.codec.specs.Expressions.{decode}
use Rattle.codec.specs.Operations.{left}
use Rattle.codec.specs.Sound.{declared, leaves_one}
use Rattle.model.specs.Values.{eval}
use Rattle.runs.specs.Operations.{numbers_from}
use Rattle.runs.specs.Flat.{cells_of, tracks_of, head_of_core}
use Rattle.runs.proofs.Core.value.Given as goal

abbrev pub invariant-loop-op : goal.invariant-loop-op
invariant-loop-op l =
    let later = left l.op-iterator in
    let cells = cells_of l.self in
    let tracks = tracks_of l.self l.samples in
    T (declared (head_of_core l.self) later)
    × T (leaves_one l.numbers.held later)
    × (l.numbers.held ≤ 16)
    × (l.numbers.base ≡ 0)
    × (eval cells tracks later (numbers_from l.numbers.base l.numbers.held l.work) ≡ eval cells tracks (decode 0 l.code).ops [])
