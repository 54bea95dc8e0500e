use Rattle.std.proofs.Common.{refl, arith, rules}
use Rattle.codec.specs.Lines.{written}
use Rattle.script.proofs.Texting.{front_is, frame_again, frames_none}
use Rattle.script.proofs.writing.put_frames.Goals as goal

pub loop-i-init : goal.loop-i-init
unfolding written
loop-i-init c = (search rules, λ fs s. record { long = refl; is = refl })

pub returns-in_err-n : goal.returns-in_err-n
returns-in_err-n c fs s =
    let bytes = front_is c.args.slab.now c.in_ok-slot_in.field-0.now _ fs c.loop-i.i c.args.frames c.loop-i-test.true c.requires.few s c.in_ok-slot_in.ensures c.front_of.ensures.bytes in
    rw c.from_residual-in_err-n.ensures
    (frames_none fs _ c.args.out.now c.loop-i.out c.loop-i.i c.loop-i.n (omega (arith, c.loop-i-test.true, s.count)) bytes (search rules) (c.loop-i.invariant.1 fs s) c.in_err-n.ensures)

pub loop-i-preserved : goal.loop-i-preserved
loop-i-preserved c =
    let w = c.in_ok-n.ensures in (
      search rules,
      λ fs s.
          let bytes = front_is c.args.slab.now c.in_ok-slot_in.field-0.now _ fs c.loop-i.i c.args.frames c.loop-i-test.true c.requires.few s c.in_ok-slot_in.ensures c.front_of.ensures.bytes in
          frame_again fs _ c.args.out.now c.loop-i.out _ c.loop-i.i c.loop-i.n c.in_ok-n.n (omega (arith, c.loop-i-test.true, s.count)) bytes (c.loop-i.invariant.1 fs s) w,
    )
