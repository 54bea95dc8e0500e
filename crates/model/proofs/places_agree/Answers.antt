use Rattle.model.proofs.Places.Agreeing.{places_agree}
use Rattle.model.proofs.places_agree.Goals as goal

pub returns : goal.returns
returns c = places_agree
