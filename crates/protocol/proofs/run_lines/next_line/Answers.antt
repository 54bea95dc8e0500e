use Rattle.std.proofs.Common.{◌<◌, length, refl, arith, true-eqb, false-eqb}
use Rattle.protocol.proofs.Taking.{nothing_left, line_taken, line_cut}
use Rattle.protocol.proofs.run_lines.next_line.Goals as goal

pub returns-then-is_empty : goal.returns-then-is_empty
returns-then-is_empty c = nothing_left c.args.text.now (true-eqb _ 0 c.if-is_empty.ensures)

pub returns-in-Some : goal.returns-in-Some
returns-in-Some c =
    let found = c.in-Some.ensures in
    let t = line_taken c.args.text.now c.in-Some.line.now c.in-Some.rest.now c.args.number c.read_line.result c.ok_or.result found.0 found.1 c.read_line.ensures.bytes c.read_line.ensures.slot c.ok_or.ensures.value in
    record { first = t.0; numbered = refl; told_at = t.1; shorter = t.2 }

pub returns-in-None : goal.returns-in-None
returns-in-None c =
    let not_None = false-eqb _ 0 c.if-is_empty.ensures in
    let some : 0 < length c.args.text.now = omega arith in
    record { first = line_cut c.args.text.now some c.in-None.ensures; numbered = refl; told_at = refl; shorter = some }
