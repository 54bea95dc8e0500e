use Rattle.std.proofs.Common.{◌≡◌, ℕ, ◌+◌, ◌*◌, ◌≤◌, List, set, sym, refl, ap, ◌∙◌, subst, ⊎_elim, arith, rules}
use Rattle.codec.specs.Shapes.{read_of}
use Rattle.codec.specs.declared.frames.Frame.{Frame}
use Rattle.survey.specs.Filling.{Filled, Right, simple_step}
use Rattle.survey.specs.Stretches.{Survey, followed, no_command}
use Rattle.survey.specs.declared.Stretch.{Stretch}
use Rattle.survey.specs.declared.table.Step.{Step}
use Rattle.survey.proofs.Parts.{block, choice, joined, not_back, nowhere, one, put, within}
use Rattle.survey.proofs.Peeling.{at_assign, at_if, at_other, at_put, at_skip, at_while, at_with, none_found}
use Rattle.survey.proofs.Righting.{Finds, right_assign, right_else, right_end_if, right_end_while, right_end_with, right_if, right_put, right_skip, right_while, right_with}
use Rattle.survey.proofs.+survey_from.Goals as goal

-- What is told of a stretch, by way of the one that it is.
abbrev Told : List ℕ → ℕ → List Step → List Step → Stretch → Type 0
Told slab at was is s = record { start : at ≤ s.end; end : s.end ≤ 512; turns : s.duration + 2 * at ≤ 2 * s.end; survey : Survey slab at s; steps : Filled slab at s.end was is }

told : {slab : List ℕ} {at : ℕ} {was is : List Step} {r s : Stretch} → r ≡ s → at ≤ s.end → s.end ≤ 512 → s.duration + 2 * at ≤ 2 * s.end → Survey slab at s → Filled slab at s.end was is → Told slab at was is r
told {slab} {at} {was} {is} e start end turns survey steps = subst (Told slab at was is) (sym e) (record { start = start; end = end; turns = turns; survey = survey; steps = steps })

-- What was found, where the frame is known.
known : {slab : List ℕ} {at : ℕ} {x y : Frame} → x ≡ y → Finds slab at (read_of x) → Finds slab at (read_of y)
known {slab} {at} e found = subst (λ (f : Frame). Finds slab at (read_of f)) e found

pub returns-in_default : goal.returns-in_default
returns-in_default t c =
    told c.none.ensures (omega arith) (omega arith) (omega arith) (none_found c.args.slab.now c.args.at _ c.in_default.ensures.held) (nowhere c.args.at c.args.table.now)

pub returns-in-Skip : goal.returns-in-Skip
returns-in-Skip t c =
    let slab = c.args.slab.now in
    let at = c.args.at in
    let s = c.survey_from.result in
    let found = c.in-Some.ensures in
    let next : c.past.result ≡ at + 1 = search rules in
    let later = c.survey_from.ensures in
    let own : Survey slab at (followed (no_command at) 1 s) × Right slab at (simple_step at c.in-Some.frame) = ⊎_elim
    (λ i. let f = known i found.held in
    (at_skip slab at _ f c.past.result (within c.past.ensures) s later.survey refl, subst (λ (x : Frame). Right slab at (simple_step at x)) (sym i) (right_skip slab at f)))
    (λ i. let f = known i.2 found.held in
    (at_put slab at _ f c.past.result (within c.past.ensures) s later.survey _ _ refl, subst (λ (x : Frame). Right slab at (simple_step at x)) (sym i.2) (right_put slab at _ _ f)))
    c.in-Skip.is in
    told (c.then.ensures ∙ ap (λ (a : Stretch). followed a 1 s) c.none-in-Skip.ensures) (omega arith) (omega arith) (omega arith) own.0
    (joined (put c.past.ensures own.1 (c.put_step.ensures ∙ ap (λ (x : Step). set c.args.table.now at x) c.simple.ensures)) later.steps)

pub returns-in-Assign : goal.returns-in-Assign
returns-in-Assign t c =
    let slab = c.args.slab.now in
    let at = c.args.at in
    let s = c.survey_from-in-Assign.result in
    let found = c.in-Some.ensures in
    let next : c.past-in-Assign.result ≡ at + 1 = search rules in
    let later = c.survey_from-in-Assign.ensures in
    let f = known c.in-Assign.is found.held in
    told (c.then-in-Assign.ensures ∙ ap (λ (a : Stretch). followed a 1 s) c.assigning-own.ensures) (omega arith) (omega arith) (omega arith)
    (at_assign slab at _ f c.past-in-Assign.result (within c.past-in-Assign.ensures) s later.survey c.in-Assign.variable _ refl)
    (joined (put c.past-in-Assign.ensures (right_assign slab at _ _ f) (c.put_step-in-Assign.ensures ∙ ap (λ (x : Step). set c.args.table.now at x) c.simple-in-Assign.ensures)) later.steps)

pub returns-in-If : goal.returns-in-If
returns-in-If t c =
    let slab = c.args.slab.now in
    let at = c.args.at in
    let a = c.survey_from-first.result in
    let b = c.survey_from-second.result in
    let s = c.survey_from-in-If.result in
    let found = c.in-Some.ensures in
    let next : c.past-in-If.result ≡ at + 1 = search rules in
    let first = c.survey_from-first.ensures in
    let other = c.survey_from-second.ensures in
    let later = c.survey_from-in-If.ensures in
    let second : a.end ≤ c.past-in-If-2.result = not_back c.past-in-If-2.ensures in
    let third : b.end ≤ c.past-in-If-3.result = not_back c.past-in-If-3.ensures in
    let bytes = c.in-If.code.now in
    let f = known c.in-If.is found.held in
    told (c.then-in-If.ensures ∙ ap (λ (x : Stretch). followed x 2 s) c.beside-both.ensures) (omega arith) (omega arith) (omega arith)
    (at_if slab at _ f c.past-in-If.result (within c.past-in-If.ensures) a first.survey
    c.past-in-If-2.result (within c.past-in-If-2.ensures) b other.survey
    c.past-in-If-3.result (within c.past-in-If-3.ensures) s later.survey _ refl)
    (choice first.steps other.steps
    (one c.past-in-If.ensures (right_if slab at c.past-in-If.result c.past-in-If.ensures a first.survey c.past-in-If-2.result c.past-in-If-2.ensures b other.survey bytes f) c.survey_from-second.new.table)
    (one c.past-in-If-2.ensures (right_else slab at c.past-in-If.result c.past-in-If.ensures a first.survey c.past-in-If-2.result c.past-in-If-2.ensures b other.survey bytes f) _)
    (put c.past-in-If-3.ensures (right_end_if slab at c.past-in-If.result c.past-in-If.ensures a first.survey c.past-in-If-2.result c.past-in-If-2.ensures b other.survey bytes f) c.put_choice.ensures)
    later.steps)

pub returns-in-While : goal.returns-in-While
returns-in-While t c =
    let slab = c.args.slab.now in
    let at = c.args.at in
    let b = c.survey_from-body.result in
    let found = c.in-Some.ensures in
    let next : c.past-in-While.result ≡ at + 1 = search rules in
    let body = c.survey_from-body.ensures in
    let later = c.survey_from-in-While.ensures in
    let second : b.end ≤ c.past-in-While-2.result = not_back c.past-in-While-2.ensures in
    let bytes = c.in-While.code.now in
    let f = known c.in-While.is found.held in
    told c.repeated.ensures (omega arith) (omega arith) (omega arith)
    (at_while slab at _ f c.past-in-While.result (within c.past-in-While.ensures) b body.survey
    c.past-in-While-2.result (within c.past-in-While-2.ensures) c.survey_from-in-While.result later.survey _ refl)
    (block body.steps
    (one c.past-in-While.ensures (right_while slab at c.past-in-While.result c.past-in-While.ensures b body.survey bytes f) c.survey_from-body.new.table)
    (put c.past-in-While-2.ensures (right_end_while slab at c.past-in-While.result c.past-in-While.ensures b body.survey bytes f) c.put_loop.ensures)
    later.steps)

pub returns-in-With : goal.returns-in-With
returns-in-With t c =
    let slab = c.args.slab.now in
    let at = c.args.at in
    let b = c.survey_from-body-in-With.result in
    let s = c.survey_from-in-With.result in
    let found = c.in-Some.ensures in
    let next : c.past-in-With.result ≡ at + 1 = search rules in
    let body = c.survey_from-body-in-With.ensures in
    let later = c.survey_from-in-With.ensures in
    let second : b.end ≤ c.past-in-With-2.result = not_back c.past-in-With-2.ensures in
    let locks = c.in-With.locks in
    let bytes = c.in-With.code.now in
    let f = known c.in-With.is found.held in
    told (c.then-in-With.ensures ∙ ap (λ (x : Stretch). followed x 2 s) c.held-held.ensures) (omega arith) (omega arith) (omega arith)
    (at_with slab at _ f c.past-in-With.result (within c.past-in-With.ensures) b body.survey
    c.past-in-With-2.result (within c.past-in-With-2.ensures) s later.survey locks _ c.literal_one.result refl c.literal_one.ensures)
    (block body.steps
    (one c.past-in-With.ensures (right_with slab at c.past-in-With.result c.past-in-With.ensures b body.survey locks bytes f) c.survey_from-body-in-With.new.table)
    (put c.past-in-With-2.ensures (right_end_with slab at c.past-in-With.result c.past-in-With.ensures b body.survey locks bytes f) c.put_hold.ensures)
    later.steps)

pub returns-in_default-frame : goal.returns-in_default-frame
returns-in_default-frame t c =
    told c.none-in_default-frame.ensures (omega arith) (omega arith) (omega arith)
    (at_other c.args.slab.now c.args.at (read_of c.in-Some.frame) c.in-Some.ensures.held (search rules)) (nowhere c.args.at c.args.table.now)
