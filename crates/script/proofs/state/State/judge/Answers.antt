use Rattle.std.proofs.lemmas.Result.{err_from_is_err_and}
use Rattle.codec.specs.Shapes.{read_of}
use Rattle.script.proofs.Judging.{own_fault}
use Rattle.script.proofs.state.State.judge.Goals as goal

pub returns-in_err-next : goal.returns-in_err-next
returns-in_err-next g c =
    let p = err_from_is_err_and c.from_residual.result c.from_residual.ensures.1 in
    rw (p.1, p.2) (own_fault g.K.Lattice.kind g.K.Lattice.order c.args.self (read_of c.args.frame) _ c.in_err-next.ensures)
