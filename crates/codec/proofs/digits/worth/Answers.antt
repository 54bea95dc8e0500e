use Rattle.std.proofs.Common.{rules}
use Rattle.codec.specs.Lines.{worth}
use Rattle.codec.proofs.Worths.{rule}
use Rattle.codec.proofs.digits.worth.Goals as goal

pub returns : goal.returns
unfolding worth
returns c = search (rules, rule (λ x. x))
