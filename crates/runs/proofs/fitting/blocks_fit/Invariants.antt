use Rattle.std.proofs.Common.{◌≡◌, length}
use Rattle.runs.specs.Flat.{first_mark, level_inside}
use Rattle.runs.specs.Turns.{all_first}
use Rattle.runs.specs.Fitted.{block_suits}
use Rattle.runs.proofs.fitting.blocks_fit.Given as goal

abbrev pub invariant-loop-mark : goal.invariant-loop-mark
invariant-loop-mark g l =
    (l.outside ≡ level_inside l.marks (first_mark l.i) (length l.yielded))
    × (l.all ≡ all_first (block_suits g.K.Lattice.order l.table l.fn.around.openers l.marks (first_mark l.i)) (length l.yielded))
