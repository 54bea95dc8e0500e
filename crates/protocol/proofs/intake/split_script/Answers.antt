use Rattle.protocol.proofs.Parting.{not_parted, parted}
use Rattle.protocol.proofs.intake.split_script.Goals as goal

pub returns-then-is_last : goal.returns-then-is_last
returns-then-is_last c =
    let found = c.in-Some.ensures in
    parted c.args.text.now c.loop-line.rest.now c.in-Some.line.now c.in-Some.after.now _ _ c.loop-line.invariant found.0 found.1 c.if-is_last.ensures c.split_at.ensures.front c.split_at.ensures.back

pub returns : goal.returns
returns c = not_parted c.args.text.now c.loop-line.rest.now c.loop-line.invariant c.in_default.ensures
