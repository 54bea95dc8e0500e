use Rattle.std.proofs.Common.{sym, arith}
use Rattle.script.proofs.Holding.{held_few}
use Rattle.script.proofs.Framing.{numbered_past}
use Rattle.survey.proofs.Peeling.{none_found}
use Rattle.survey.proofs.stretch_at.Goals as goal

pub returns-then-place-gt-FRAMES : goal.returns-then-place-gt-FRAMES
returns-then-place-gt-FRAMES c =
    none_found c.args.slab.now c.args.place c.none.result
    (λ kind k fs h. sym (numbered_past fs c.args.place (omega (arith, held_few kind k c.args.slab.now fs h, c.if-place-gt-FRAMES.true))))
