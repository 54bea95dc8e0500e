use Rattle.model.proofs.Places.Fit.{places_fit}
use Rattle.model.proofs.places_fit.Goals as goal

pub returns : goal.returns
returns c = places_fit
