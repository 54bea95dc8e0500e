use Rattle.std.proofs.Common.{◌+◌, length, get_or, sym, refl, ap, ◌∙◌, arith}
use Rattle.std.proofs.lemmas.List.{length_push}
use Rattle.std.proofs.lemmas.Slice.Zip.{zip_turn}
use Rattle.runs.specs.declared.stack.Stack.{Stack}
use Rattle.runs.specs.Flat.{first_mark, nil_mark, level_inside}
use Rattle.runs.specs.Turns.{all_first}
use Rattle.runs.specs.Fitted.{block_suits, mark_suits}
use Rattle.runs.proofs.Loops.{inside_more}
use Rattle.runs.proofs.Advancing.{all_none}
use Rattle.runs.proofs.Matching.{block_more}
use Rattle.runs.proofs.fitting.blocks_fit.Goals as goal

pub loop-mark-init : goal.loop-mark-init
loop-mark-init g c = (refl, sym (all_none _))

pub loop-mark-preserved : goal.loop-mark-preserved
loop-mark-preserved g c =
    let marks = c.args.marks.now in
    let b = first_mark c.args.i in
    let d = length c.loop-mark.yielded in
    let items = c.items-blocks.ensures in
    let long = items.long in
    let t = zip_turn c.items-blocks.result.now c.args.around.openers c.loop-mark.yielded c.into_iter-mark-iterator.result c.loop-mark.mark-iterator c.next.new.self c.next.result (cc) (cc) c.loop-mark.yielded_by (c.in-Some.mark, c.in-Some.met) c.in-Some.is c.next.ensures.steps in
    let mark = t.2 nil_mark ∙ items.by_index d nil_mark (omega (arith, t.0)) ∙ ap (λ (s : Stack). get_or marks (s.base + d) nil_mark) c.open_blocks.ensures in
    let more = length_push c.loop-mark.yielded (c.in-Some.mark, c.in-Some.met) in
    let suits = block_suits g.K.Lattice.order c.args.table.now c.args.around.openers marks b in
    let was = c.loop-mark.invariant in
    let here = c.block_fits-all.ensures ∙ (λ i. mark_suits g.K.Lattice.order c.args.table.now (t.3 0 i) (mark i) c.loop-mark.outside) in (
      (λ j. (mark j).level) ∙ sym (inside_more marks b d) ∙ ap (level_inside marks b) (sym more),
      block_more g.K.Lattice.order c.args.table.now c.args.around.openers marks b d _ _ _ was.1 was.0 here ∙ ap (all_first suits) (sym more),
    )
