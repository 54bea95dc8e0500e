use Rattle.script.proofs.Searching.{slotted}
use Rattle.script.proofs.Holding.{written}
use Rattle.script.proofs.writing.put_script.Goals as goal

pub returns : goal.returns
returns g c =
    let h = c.in_ok-declared.ensures in
    written g.K.Lattice.kind g.K.Lattice.order c.args.slab.now c.args.out.now _ c.in_ok-declared.declared c.put_frames.result h (c.put_frames.ensures h.frames (slotted g.K.Lattice.kind g.K.Lattice.order c.args.slab.now c.in_ok-declared.declared h))
