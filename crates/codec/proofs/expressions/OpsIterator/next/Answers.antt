use Rattle.codec.proofs.Postfix.{none_read}
use Rattle.codec.proofs.expressions.OpsIterator.next.Goals as goal

pub returns-in_err-op-clause-steps : goal.returns-in_err-op-clause-steps
returns-in_err-op-clause-steps c =
    let none = none_read c.args.self.now.rest.now c.in_err-op.ensures in
    rw c.from_residual.ensures (none, none)
