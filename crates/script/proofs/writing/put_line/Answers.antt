use Rattle.std.proofs.Common.{arith}
use Rattle.script.proofs.Texting.{no_room, line_put}
use Rattle.script.proofs.writing.put_line.Goals as goal

pub returns-then-out-end : goal.returns-then-out-end
returns-then-out-end c = no_room c.args.bytes.now c.args.out.now c.args.n c.if-out-end.true

pub returns : goal.returns
returns c = line_put c.args.bytes.now c.args.out.now c.args.n c.if-out-end.false c.loop-i.out c.loop-i.i (omega (arith, c.loop-i-test.false)) c.loop-i.invariant
