use Rattle.std.proofs.Common.{◌≤◌, true, false, set, sym, refl, ap, ◌∙◌, subst, arith}
use Rattle.survey.specs.Filling.{BeginsThread}
use Rattle.survey.specs.declared.table.Step.{Step}
use Rattle.survey.proofs.Parts.{joined, not_back, not_over, put, within}
use Rattle.survey.proofs.Tabling.{end_outside, next_outside, right_begin, right_end, right_other}
use Rattle.survey.proofs.tabulate_from.Goals as goal

pub returns-then-not-begins_thread : goal.returns-then-not-begins_thread
returns-then-not-begins_thread c =
    let slab = c.args.slab.now in
    let place = c.args.place in
    let is : BeginsThread slab place false = subst (BeginsThread slab place) c.if-not-begins_thread.true c.begins_thread.ensures in
    record {
      start = omega arith;
      end = omega (arith, c.requires.place);
      outside = next_outside slab place c.requires.outside is;
      steps = put (sym (within {place = place} refl c.requires.place)) (right_other slab place c.requires.outside is) (c.put_step.ensures ∙ ap (λ (s : Step). set c.args.table.now place s) c.plain.ensures);
    }

pub returns : goal.returns
returns c =
    let slab = c.args.slab.now in
    let place = c.args.place in
    let is : BeginsThread slab place true = subst (BeginsThread slab place) c.if-not-begins_thread.false c.begins_thread.ensures in
    let s = c.survey_from-thread.result in
    let inside = c.survey_from-thread.ensures in
    let on : s.end ≤ c.past.result = not_back c.past.ensures in
    record {
      start = omega (arith, on, inside.start);
      end = not_over c.past.ensures inside.end;
      outside = end_outside slab place is s inside.survey c.past.result c.past.ensures;
      steps = joined
          (joined (put (sym (within {place = place} refl c.requires.place)) (right_begin slab place is) (c.put_step-2.ensures ∙ ap (λ (x : Step). set c.args.table.now place x) c.plain-2.ensures)) inside.steps)
          (put c.past.ensures (right_end slab place is s inside.survey) (c.put_step-3.ensures ∙ ap (λ (x : Step). set c.survey_from-thread.new.table s.end x) c.plain-3.ensures));
    }
