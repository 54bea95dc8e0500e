use Rattle.std.proofs.Common.{◌≡◌, Err, Result, subst, rules, arith}
use Rattle.script.specs.declared.faults.RunFault.{RunFault}
use Rattle.runs.specs.Calls.{Finds}
use Rattle.runs.proofs.Feeding.{held_in, slot_in}
use Rattle.runs.proofs.Looking.{finds_beyond, finds_found, finds_missing}
use Rattle.runs.proofs.run.Run.entry.Goals as goal

pub returns-in_err-port : goal.returns-in_err-port
returns-in_err-port g c =
    let run = c.args.self.now in
    let fault : ◌≡◌ {A = Result _ RunFault} (Err c.in_err-port.field-0.0) c.from_residual.result = search rules in
    subst (Finds g.K.Lattice.kind g.K.Lattice.order g.S.Scheduler.meaning c.args.channel c.args.index run.core run.scheduler c.args.entries.now) fault (finds_missing _ _ _ c.args.channel run.core _ c.args.entries.now _ c.in_err-port.ensures c.args.index)

pub returns-then-index-port : goal.returns-then-index-port
returns-then-index-port g c = let run = c.args.self.now in finds_beyond _ _ _ c.args.channel run.core _ c.args.entries.now _ c.in_ok-port.ensures run.channels run.put c.args.index c.if-index-port.true

-- The entry's slot lies in what the channels hold together, which is at most 512.
pub overflow_add-result : goal.overflow_add-result
overflow_add-result g c =
    let run = c.args.self.now in
    let small = run.small.1 in
    let held = held_in _ _ _ _ _ c.in_ok-port.ensures run.channels run.put in
    let inside = slot_in _ _ _ _ _ c.in_ok-port.ensures run.channels c.args.index (omega arith) in
    record { fits = omega arith }

pub offset_bounds-entries-port : goal.offset_bounds-entries-port
offset_bounds-entries-port g c =
    let run = c.args.self.now in
    let small = run.small.1 in
    let held = held_in _ _ _ _ _ c.in_ok-port.ensures run.channels run.put in
    let inside = slot_in _ _ _ _ _ c.in_ok-port.ensures run.channels c.args.index (omega arith) in
    record { fits = omega arith }

pub bounds-entries-port : goal.bounds-entries-port
bounds-entries-port g c =
    let run = c.args.self.now in
    let held = held_in _ _ _ _ _ c.in_ok-port.ensures run.channels run.put in
    let inside = slot_in _ _ _ _ _ c.in_ok-port.ensures run.channels c.args.index (omega arith) in
    let enough = c.in_ok-port.ensures.enough in
    omega arith

pub returns : goal.returns
returns g c = let run = c.args.self.now in finds_found _ _ _ c.args.channel run.core _ c.args.entries.now _ c.in_ok-port.ensures run.channels run.put c.args.index c.if-index-port.false
