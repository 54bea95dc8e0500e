use Rattle.std.proofs.Common.{◌*◌, sym, ap, ◌∙◌, arith, length-take, get_or-take}
use Rattle.runs.specs.declared.Place.{Place}
use Rattle.runs.specs.Flat.{guard_marks, nil_place}
use Rattle.runs.proofs.Loops.{guard_threads_none, guard_threads_more}
use Rattle.runs.proofs.Core.guard.Goals as goal

pub loop-i-init : goal.loop-i-init
loop-i-init g c = sym (guard_threads_none g.K.Lattice.order c.args.table.now c.args.marks.now c.args.x c.args.self.now.threads)

pub loop-i-preserved : goal.loop-i-preserved
loop-i-preserved g c =
    let s = c.args.self.now in
    let i = c.loop-i.i in
    let place = get_or-take s.head.threads s.threads i nil_place (omega (arith, length-take s.head.threads s.threads)) in
    let blocks = c.open_blocks.ensures ∙ ap (λ (p : Place). record { base = i * 16; held = p.depth }) place in
    c.guard_of-all.ensures
    ∙ (λ j. guard_marks g.K.Lattice.order c.args.table.now c.args.marks.now c.args.x (blocks j).base (blocks j).held (c.loop-i.invariant j))
    ∙ sym (guard_threads_more g.K.Lattice.order c.args.table.now c.args.marks.now c.args.x s.threads i)
