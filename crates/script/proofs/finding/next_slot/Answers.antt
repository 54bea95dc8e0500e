use Rattle.std.proofs.Common.{◌<◌, rules}
use Rattle.std.proofs.ByRecursion.{All-from_get_or}
use Rattle.codec.specs.Writable.{Bytes}
use Rattle.script.proofs.SlotTakings.{too_long, not_zero, taken}
use Rattle.script.proofs.finding.next_slot.Goals as goal

pub returns-in_err-front : goal.returns-in_err-front
returns-in_err-front g c =
    rw c.from_residual-in_err-front.ensures
    (too_long g.K.Lattice.kind g.K.Lattice.order c.args.state c.args.slot.now (search rules) (rw c.in_ok-frame_length.ensures at c.in_err-front.ensures.cases))

pub returns-then-not-is_zero : goal.returns-then-not-is_zero
returns-then-not-is_zero g c =
    not_zero g.K.Lattice.kind g.K.Lattice.order c.args.state c.args.slot.now c.in_ok-front.front.now c.in_ok-front.behind.now (rw c.in_ok-frame_length.ensures at c.in_ok-front.ensures.cases) c.if-not-is_zero.ensures

pub returns : goal.returns
returns g c =
    let small : Bytes c.args.slot.now = All-from_get_or (λ b. b < 256) c.args.slot.now 0 (λ i h. c.fits-slot i) in
    rw c.ok.ensures.value
    (taken g.K.Lattice.kind g.K.Lattice.order c.args.state c.args.slot.now c.in_ok-front.front.now c.in_ok-front.behind.now (rw c.in_ok-frame_length.ensures at c.in_ok-front.ensures.cases)
    c.take.result (search rules) small c.if-not-is_zero.ensures c.take.ensures)
