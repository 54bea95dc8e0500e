use Rattle.model.proofs.Confidential.Secret.{blind}
use Rattle.model.proofs.every_view_is_blind.Goals as goal

pub returns : goal.returns
returns g c = blind g.S.Scheduler.obeys
