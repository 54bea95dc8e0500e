use Rattle.std.proofs.Common.{rules}
use Rattle.runs.proofs.Begun.{ends_there}
use Rattle.runs.proofs.starting.ends_thread.Goals as goal

pub returns : goal.returns
returns c kind k fs holds = ends_there fs c.args.at c.is_some_and.result c.frame_at.result (c.frame_at.ensures.held kind k fs holds) (search rules)
