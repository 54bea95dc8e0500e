use Rattle.std.proofs.Common.{◌≡◌, ℕ}
use Rattle.survey.specs.declared.table.Step.{Step}
use Rattle.runs.specs.Flat.{level_inside}
use Rattle.runs.specs.Statuses.{locks_of}
use Rattle.runs.proofs.blocks.locks.Given as goal

abbrev pub invariant-loop-mark : goal.invariant-loop-mark
invariant-loop-mark g l =
    (l.outside ≡ level_inside l.marks l.fn.blocks.base l.mark-index)
    × ((f : Step → ℕ → ℕ → ℕ) → ((s : _) (o i r : ℕ) → goal.F-post g l.given s o i r → r ≡ f s.now o i) → l.all ≡ locks_of l.table l.marks f l.fn.blocks.base l.mark-index)
