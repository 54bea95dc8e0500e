use Rattle.std.proofs.Common.{ℕ, ◌+◌, ◌<◌, length, get_or, set, sym, ap, ◌∙◌, subst, add-one, arith, length-set, length-take, length-take-le, get_or-set_same}
use Rattle.runs.specs.Flat.{nil_port}
use Rattle.runs.specs.Kept.{room}
use Rattle.runs.specs.Declaring.{PortAt}
use Rattle.runs.proofs.Stored.{ports_front, ports_more, room_more, room_none, room_set}
use Rattle.runs.proofs.declaring.ports.Goals as goal

pub loop-h-init : goal.loop-h-init
loop-h-init c = (sym (room_none _), omega arith, length-take-le c.args.n _ c.requires.0, λ h lt. absurd (omega arith))

pub loop-h-preserved : goal.loop-h-preserved
loop-h-preserved c =
    let was = c.loop-h.invariant in
    let p = c.port_at.result in
    let small = c.port_at.ensures.small in
    let all = c.loop-h.declared in
    let h = c.loop-h.h in
    let long = was.2 in
    let within : h < length all = omega (arith, c.loop-h-test.true) in
    let R : ℕ → Type 0 = λ n. PortAt c.args.script.now (c.args.first + h) n p in (
      (λ i. was.0 i + sym (ap (λ q. q.size) (get_or-set_same all h p nil_port within)) i) ∙ (λ i. sym (room_set all h p h (omega arith)) i + (get_or (set all h p) h nil_port).size) ∙ sym (ap (room (set all h p)) (add-one h) ∙ room_more (set all h p) h),
      omega (arith, was.1),
      length-set all h p ∙ long,
      ports_more c.args.script.now c.args.first h all p within was.3 (subst R was.0 c.port_at.ensures.port),
    )

pub returns : goal.returns
returns c =
    let was = c.loop-h.invariant in
    let long = was.2 in
    let all = simp length-take at c.loop-h-test.false in
    let few = c.requires.0 in
    ports_front c.args.script.now c.args.first c.args.n c.loop-h.declared _ (omega arith) (λ h lt. was.3 h (omega arith))
