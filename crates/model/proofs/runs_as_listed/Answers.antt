use Rattle.model.proofs.Listing.{runs_as_listed}
use Rattle.model.proofs.runs_as_listed.Goals as goal

pub returns : goal.returns
returns c = runs_as_listed
