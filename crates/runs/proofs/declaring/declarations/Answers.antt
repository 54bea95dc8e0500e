use Rattle.std.proofs.Common.{arith, rules}
use Rattle.runs.proofs.Stored.{declares_as, held_bounds}
use Rattle.runs.proofs.declaring.declarations.Goals as goal

pub returns-in_err-found : goal.returns-in_err-found
returns-in_err-found g c = rw c.from_residual.ensures (λ sc i. c.in_err-found.ensures _ i.holds)

pub ports-requires : goal.ports-requires
ports-requires g c =
    let b = held_bounds g.K.Lattice.kind g.K.Lattice.order c.args.script.now c.in_ok-found.found c.in_ok-found.ensures in
    (b.tracks, omega arith)

pub ports-requires-2 : goal.ports-requires-2
ports-requires-2 g c =
    let b = held_bounds g.K.Lattice.kind g.K.Lattice.order c.args.script.now c.in_ok-found.found c.in_ok-found.ensures in
    (b.channels, omega (arith, b.tracks))

pub returns : goal.returns
returns g c =
    declares_as g.K.Lattice.kind g.K.Lattice.order c.args.script.now c.in_ok-found.found c.in_ok-found.ensures c.ports.result c.ports-2.result (search rules) (search rules) c.ports.ensures c.ports-2.ensures
