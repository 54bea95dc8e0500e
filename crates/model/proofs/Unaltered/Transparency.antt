-- A script that passes inspection runs as it would with every level open.
use Rattle.std.proofs.Common.{ap, ◌∙◌}
use Rattle.lattice.specs.Levels.{Levels, Lawful}
use Rattle.script.specs.Code.{Script}
use Rattle.model.specs.Machine.{State}
use Rattle.scheduler.specs.Turns.{Meaning}
use Rattle.model.specs.Calls.{begin, answers}
use Rattle.model.specs.Levels.{Levelled, opened}
use Rattle.model.specs.Inspection.{Transparent}
use Rattle.model.proofs.Unaltered.Begun.{world, begin_erased, begin_kept}
use Rattle.model.proofs.Unaltered.Answered.{answers_alike}

pub transparent : {k : Levels} {sc : Script} {G : Type 0} (schedule : Meaning G) → Lawful k → Levelled k sc → Transparent k sc schedule
transparent {k} {sc} schedule L l typing p g xs =
    let W = world L l p in
    answers_alike W schedule xs (begin sc) g (begin_kept W p) ∙ ap (λ (s : State). answers k (opened sc) schedule xs s g) (begin_erased sc)
