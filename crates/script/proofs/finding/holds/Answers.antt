use Rattle.script.proofs.Searching.{found_first, found_lost, found_none, found_next, found_short, found_end}
use Rattle.script.proofs.finding.holds.Goals as goal

pub loop-state-init : goal.loop-state-init
loop-state-init g c =
    let s = c.at_first-state.ensures in
    found_first g.K.Lattice.kind g.K.Lattice.order c.args.slab.now c.at_first-state.result s.phase s.seen

pub returns-in_err-slot_in : goal.returns-in_err-slot_in
returns-in_err-slot_in g c =
    rw c.from_residual.ensures
    (found_lost g.K.Lattice.kind g.K.Lattice.order c.args.slab.now c.loop-state.state c.loop-state.invariant c.loop-state-test.ensures c.in_err-slot_in.ensures)

pub returns-in_err-state : goal.returns-in_err-state
returns-in_err-state g c =
    rw c.from_residual-in_err-state.ensures
    (found_none g.K.Lattice.kind g.K.Lattice.order c.args.slab.now c.loop-state.state c.loop-state.invariant c.in_ok-slot_in.field-0.now c.loop-state-test.ensures c.in_ok-slot_in.ensures c.in_err-state.ensures)

pub loop-state-preserved : goal.loop-state-preserved
loop-state-preserved g c =
    found_next g.K.Lattice.kind g.K.Lattice.order c.args.slab.now c.loop-state.state c.loop-state.invariant c.in_ok-slot_in.field-0.now c.in_ok-state.state c.loop-state-test.ensures c.in_ok-slot_in.ensures c.in_ok-state.ensures

pub returns-in_err-get : goal.returns-in_err-get
returns-in_err-get g c =
    rw c.from_residual-in_err-get.ensures
    (found_short g.K.Lattice.kind g.K.Lattice.order c.args.slab.now c.loop-state.state c.loop-state.invariant (rw c.from-used.ensures at c.in_err-get.ensures.lookup.0))

pub returns : goal.returns
returns g c =
    let h = rw c.from-used.ensures at c.in_ok-get.ensures.lookup in
    rw c.then_some.ensures
    (rw c.declarations.ensures
    (found_end g.K.Lattice.kind g.K.Lattice.order c.args.slab.now c.loop-state.state c.loop-state.invariant c.in_ok-get.field-0.now c.is_zero.result c.loop-state-test.ensures h.0.1 h.0.2 c.is_zero.ensures))
