use Rattle.std.proofs.Common.{◌≡◌, min, length, sym, ap, ◌∙◌, arith, get_or-take}
use Rattle.std.proofs.lemmas.List.{length-take}
use Rattle.survey.specs.Around.{strode}
use Rattle.survey.specs.Table.{nil_step, step_at_place}
use Rattle.survey.specs.declared.table.Step.{Step}
use Rattle.survey.proofs.Strides.{walked, walked_none, walked_more, walk_within, walks}
use Rattle.survey.proofs.around.walk_to.Goals as goal

pub loop-p-init : goal.loop-p-init
loop-p-init c = c.start-walk.ensures ∙ sym (walked_none c.args.table.now)

pub loop-p-preserved : goal.loop-p-preserved
loop-p-preserved c =
    let p = c.loop-p.p in
    c.over-walk.ensures
    ∙ ap (λ (st : Step). strode p st.kind c.loop-p.walk) (get_or-take c.min-end.result c.args.table.now p nil_step (omega (arith, length-take {A = Step})))
    ∙ ap (strode p (step_at_place c.args.table.now p).kind) c.loop-p.invariant
    ∙ sym (walked_more c.args.table.now p)

pub over-walk-requires : goal.over-walk-requires
over-walk-requires c =
    let here = walk_within c.args.table.now c.loop-p.p c.loop-p.walk c.loop-p.invariant in
    record { begun = here.begun; ended = here.ended; place = omega (arith, length-take {A = Step}) }

pub returns : goal.returns
returns c =
    let table = c.args.table.now in
    let all : c.loop-p.p ≡ min c.args.place (length table) = omega (arith, length-take {A = Step}) in
    let here = walk_within table c.loop-p.p c.loop-p.walk c.loop-p.invariant in
    record { met = walks table c.args.place c.loop-p.walk (c.loop-p.invariant ∙ ap (walked table) all); deep = here.depth }
