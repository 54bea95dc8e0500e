use Rattle.std.proofs.Common.{sym, ap, ◌∙◌, arith, length-take, get_or-take}
use lib.Bits.{bit_or}
use Rattle.runs.specs.Flat.{nil_place}
use Rattle.runs.specs.Statuses.{held_one}
use Rattle.runs.proofs.Loops.{against_none, against_more}
use Rattle.runs.proofs.Core.against.Goals as goal

pub loop-j-init : goal.loop-j-init
loop-j-init c = sym (against_none c.args.table.now c.args.marks.now c.args.i c.args.self.now.threads)

pub loop-j-preserved : goal.loop-j-preserved
loop-j-preserved c =
    let s = c.args.self.now in
    let j = c.loop-j.j in
    let place = get_or-take s.head.threads s.threads j nil_place (omega (arith, length-take s.head.threads s.threads)) in
    (λ i. bit_or (c.loop-j.invariant i) ((c.held-all.ensures ∙ ap (held_one c.args.table.now c.args.marks.now c.args.i j) place) i))
    ∙ sym (against_more c.args.table.now c.args.marks.now c.args.i s.threads j)
