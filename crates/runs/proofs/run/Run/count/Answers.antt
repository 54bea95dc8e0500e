use Rattle.std.proofs.Common.{◌≡◌, Err, Result, subst, rules, arith}
use Rattle.script.specs.declared.faults.RunFault.{RunFault}
use Rattle.runs.specs.Calls.{Counts}
use Rattle.runs.proofs.Feeding.{held_in, size_in}
use Rattle.runs.proofs.Looking.{counts_found, counts_missing}
use Rattle.runs.proofs.run.Run.count.Goals as goal

pub returns-in_err-port : goal.returns-in_err-port
returns-in_err-port g c =
    let run = c.args.self.now in
    let fault : ◌≡◌ {A = Result _ RunFault} (Err c.in_err-port.field-0.0) c.from_residual.result = search rules in
    subst (Counts g.K.Lattice.kind g.K.Lattice.order g.S.Scheduler.meaning c.args.channel run.core run.scheduler c.args.entries.now) fault (counts_missing _ _ _ c.args.channel run.core _ c.args.entries.now _ c.in_err-port.ensures)

-- A channel holds at most 512 entries.
pub overflow_cast-result : goal.overflow_cast-result
overflow_cast-result g c =
    let run = c.args.self.now in
    let held = held_in _ _ _ _ _ c.in_ok-port.ensures run.channels run.put in
    let part = size_in _ _ _ _ _ c.in_ok-port.ensures run.channels in
    let small = run.small.1 in
    record { fits = omega arith }

pub returns : goal.returns
returns g c = let run = c.args.self.now in counts_found _ _ _ c.args.channel run.core _ c.args.entries.now _ c.in_ok-port.ensures run.channels run.put
