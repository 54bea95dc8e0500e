use Rattle.runs.proofs.Matching.{thread_told, thread_refused}
use Rattle.runs.proofs.Core.thread_fits.Goals as goal

pub returns-then-around-p : goal.returns-then-around-p
returns-then-around-p g c =
    thread_told g.K.Lattice.kind g.K.Lattice.order c.args.table.now c.args.self.now c.args.marks.now c.args.i c.walk_to-around.result c.blocks_fit-blocks.result c.pace_fits.result c.kind_at.result
    c.walk_to-around.ensures.met c.if-around-p.true c.blocks_fit-blocks.ensures c.kind_at.ensures c.pace_fits.ensures

pub returns-else-around-p : goal.returns-else-around-p
returns-else-around-p g c =
    thread_refused g.K.Lattice.kind g.K.Lattice.order c.args.table.now c.args.self.now c.args.marks.now c.args.i c.walk_to-around.result c.walk_to-around.ensures.met c.if-around-p.false
