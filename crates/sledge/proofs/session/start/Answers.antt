use Rattle.std.proofs.Common.{◌≤◌, length, refl, rules}
use Rattle.std.proofs.lemmas.Result.{err_from_is_err_and}
use Rattle.sledge.proofs.Sessions.{as_refused}
use Rattle.sledge.proofs.session.start.Goals as goal

pub returns-in_err-accepted : goal.returns-in_err-accepted
returns-in_err-accepted g c n l e =
    let room : 26112 ≤ length c.deref_mut.result.now = search rules in
    let p = err_from_is_err_and c.from_residual-in_err-accepted.result c.from_residual-in_err-accepted.ensures.1 in
    rw (p.1, p.2) (as_refused g.K.Lattice.kind g.K.Lattice.order c.args.script.now _ _ _ n l room c.in_err-accepted.ensures e, refl)

pub returns : goal.returns
returns g c n l e =
    let room : 26112 ≤ length c.deref_mut.result.now = search rules in
    absurd (as_refused g.K.Lattice.kind g.K.Lattice.order c.args.script.now _ _ _ n l room c.in_ok-accepted.ensures e)
