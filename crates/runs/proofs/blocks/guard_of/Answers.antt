use Rattle.std.proofs.Common.{cond, sym, ◌∙◌, arith}
use Rattle.survey.specs.Stretches.{has_bit}
use Rattle.survey.specs.Table.{step_at_place}
use Rattle.runs.specs.Flat.{nil_mark}
use Rattle.runs.proofs.Loops.{guard_marks_none, guard_marks_more}
use Rattle.runs.proofs.blocks.guard_of.Goals as goal

pub loop-mark-init : goal.loop-mark-init
loop-mark-init g c = sym (guard_marks_none g.K.Lattice.order c.args.table.now c.args.marks.now c.args.x c.args.blocks.base c.args.from)

pub loop-mark-preserved : goal.loop-mark-preserved
loop-mark-preserved g c =
    let d = c.loop-mark.mark-index in
    let long = c.items-mark-items.ensures.long in
    let mark = c.items-mark-items.ensures.by_index d nil_mark (omega arith) in
    c.guard_one-all.ensures
    ∙ (λ j. cond (has_bit (step_at_place c.args.table.now (mark j).opener).assigned c.args.x) (g.K.Lattice.order.join (c.loop-mark.invariant j) (mark j).level) (c.loop-mark.invariant j))
    ∙ sym (guard_marks_more g.K.Lattice.order c.args.table.now c.args.marks.now c.args.x c.args.blocks.base d c.args.from)
