use Rattle.std.proofs.Common.{◌≡◌, length, replicate, ap, ◌∙◌, arith, length-drop, length-take, rules}
use Rattle.script.proofs.Holding.{read_ok}
use Rattle.script.proofs.reading.read_into.Goals as goal

pub returns-in-Ok : goal.returns-in-Ok
returns-in-Ok g c =
    let w = c.in-Ok.ensures in
    let few = w.few in
    let same : length c.fill.new.slab ≡ length c.args.slab.now = search rules in
    rw c.from-used.ensures
    (read_ok g.K.Lattice.kind g.K.Lattice.order c.args.lines.now c.args.slab.now c.fill.new.slab _ c.in-Ok.state _ c.if-slab-lt-SLAB.false same w
    (c.fill-in-Ok.ensures.after (λ y e. e) ∙ ap (λ n. replicate n 0) (simp (length-take, length-drop) (omega (arith, c.from-used.ensures))))
    c.declarations.ensures)
