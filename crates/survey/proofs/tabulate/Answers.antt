use Rattle.survey.proofs.Parts.{joined}
use Rattle.survey.proofs.Tabling.{tabulated}
use Rattle.survey.proofs.tabulate.Goals as goal

pub loop-place-preserved : goal.loop-place-preserved
loop-place-preserved c = let more = c.tabulate_from-place.ensures in (more.end, more.outside, joined c.loop-place.invariant.2 more.steps)

pub returns : goal.returns
returns c = tabulated c.args.slab.now c.args.table.now c.loop-place.table c.loop-place.place c.loop-place-test.false c.loop-place.invariant.2
