use Rattle.std.proofs.Common.{◌≡◌, ◌<◌, ◌≤◌, length, arith, rules, true-eqb, false-eqb}
use Rattle.std.proofs.lemmas.List.{nil_from_length}
use Rattle.std.proofs.lemmas.Result.{err_from_is_err_and}
use Rattle.script.proofs.Filling.{begins, steps, fills, fails_missing, fails_cut, fails_line}
use Rattle.script.proofs.reading.fill.Goals as goal

pub loop-rest-init : goal.loop-rest-init
loop-rest-init g c =
    let s = c.at_first-state.ensures in
    begins g.K.Lattice.kind g.K.Lattice.order c.args.lines.now c.args.slab.now c.at_first-state.result s.phase s.seen

pub returns-in_err-line : goal.returns-in_err-line
returns-in_err-line g c =
    let p = err_from_is_err_and c.from_residual.result c.from_residual.ensures.1 in
    let cut = rw c.in_err-line.ensures.ok_part at c.split_line.ensures in
    let told = rw c.in_err-line.ensures.ok_part at c.in_err-line.ensures.value in
    let not_none = false-eqb _ 0 c.loop-rest-test.ensures in
    let some : 0 < length c.loop-rest.rest.now = omega arith in
    rw (p.1, p.2.0)
    (fails_cut g.K.Lattice.kind g.K.Lattice.order c.args.lines.now c.loop-rest.rest.now c.loop-rest.slab c.args.slab.now c.loop-rest.state _ c.loop-rest.invariant some cut cc)

pub returns-in_err-next : goal.returns-in_err-next
returns-in_err-next g c =
    let p = err_from_is_err_and c.from_residual-in_err-next.result c.from_residual-in_err-next.ensures.1 in
    let found = rw c.in_ok-line.ensures.ok_part at c.split_line.ensures in
    rw (p.1, p.2)
    (fails_line g.K.Lattice.kind g.K.Lattice.order c.args.lines.now c.loop-rest.rest.now c.in_ok-line.line.now c.in_ok-line.after.now c.loop-rest.slab c.args.slab.now c.loop-rest.state _ c.loop-rest.invariant
    found.1 found.0 c.in_err-next.ensures)

pub loop-rest-preserved : goal.loop-rest-preserved
loop-rest-preserved g c =
    let found = rw c.in_ok-line.ensures.ok_part at c.split_line.ensures in
    let room : 26112 ≤ length c.loop-rest.slab = search rules in
    let long : length c.in_ok-next.slot.bytes ≡ 51 = search rules in
    rw c.from-at.ensures
    (steps g.K.Lattice.kind g.K.Lattice.order c.args.lines.now c.loop-rest.rest.now c.in_ok-line.line.now c.in_ok-line.after.now c.loop-rest.slab c.args.slab.now c.loop-rest.state c.in_ok-next.next c.in_ok-next.slot room long
    c.loop-rest.invariant found.1 found.0 c.in_ok-next.ensures _ _ c.copy_from_slice.ensures.after (omega arith))

pub returns-then-not-ended : goal.returns-then-not-ended
returns-then-not-ended g c =
    let none = nil_from_length c.loop-rest.rest.now (true-eqb _ 0 c.loop-rest-test.ensures) in
    fails_missing g.K.Lattice.kind g.K.Lattice.order c.args.lines.now c.loop-rest.rest.now c.loop-rest.slab c.args.slab.now c.loop-rest.state c.loop-rest.invariant none c.if-not-ended.ensures

pub returns : goal.returns
returns g c =
    let none = nil_from_length c.loop-rest.rest.now (true-eqb _ 0 c.loop-rest-test.ensures) in
    fills g.K.Lattice.kind g.K.Lattice.order c.args.lines.now c.loop-rest.rest.now c.loop-rest.slab c.args.slab.now c.loop-rest.state c.loop-rest.invariant none c.if-not-ended.ensures
