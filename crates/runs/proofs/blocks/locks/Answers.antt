use Rattle.std.proofs.Common.{sym, refl, ◌∙◌, arith}
use lib.Bits.{bit_or, or_comm}
use Rattle.survey.specs.Table.{step_at_place}
use Rattle.runs.specs.Flat.{nil_mark}
use Rattle.runs.proofs.Loops.{inside_more, locks_none, locks_more}
use Rattle.runs.proofs.blocks.locks.Goals as goal

pub loop-mark-init : goal.loop-mark-init
loop-mark-init g c = (refl, λ f acts. sym (locks_none c.args.table.now c.args.marks.now f c.args.blocks.base))

pub loop-mark-preserved : goal.loop-mark-preserved
loop-mark-preserved g c =
    let d = c.loop-mark.mark-index in
    let b = c.args.blocks.base in
    let long = c.items-mark-items.ensures.long in
    let mark = c.items-mark-items.ensures.by_index d nil_mark (omega arith) in
    let was = c.loop-mark.invariant in (
      (λ j. (mark j).level) ∙ sym (inside_more c.args.marks.now b d),
      λ f acts.
          or_comm c.loop-mark.all c.given-all.result
          ∙ (λ j. bit_or ((acts _ _ _ _ c.given-all.ensures ∙ (λ i. f (step_at_place c.args.table.now (mark i).opener) (was.0 i) (mark i).level)) j) (was.1 f acts j))
          ∙ sym (locks_more c.args.table.now c.args.marks.now f b d),
    )
