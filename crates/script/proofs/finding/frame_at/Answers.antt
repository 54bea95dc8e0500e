use Rattle.script.proofs.Framing.{found_none, found_front}
use Rattle.script.proofs.finding.frame_at.Goals as goal

pub returns-in_err-slot_in : goal.returns-in_err-slot_in
returns-in_err-slot_in c = rw c.from_residual.ensures (found_none c.args.slab.now c.args.slot c.in_err-slot_in.ensures)

pub returns : goal.returns
returns c =
    found_front c.args.slab.now c.in_ok-slot_in.field-0.now c.front_of.result.now c.args.slot c.read_frame.result c.in_ok-slot_in.ensures c.front_of.ensures.bytes c.read_frame.ensures
