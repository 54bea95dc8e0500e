use Rattle.model.proofs.Examples.{examples}
use Rattle.model.proofs.examples_hold.Goals as goal

pub returns : goal.returns
returns c = examples
