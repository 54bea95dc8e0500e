-- The listed run, by computation.
use Rattle.std.proofs.Common.{refl}
use Rattle.model.specs.Machine.{step_at, do_put}
use Rattle.model.specs.Calls.{perform}
use Rattle.scheduler.specs.Schedulers.{first_after}
use Rattle.model.specs.Listing.{RunsAsListed}

pub runs_as_listed : RunsAsListed
unfolding first_after perform step_at do_put
runs_as_listed = refl
