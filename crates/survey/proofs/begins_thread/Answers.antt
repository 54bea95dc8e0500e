use Rattle.std.proofs.Common.{true, false, rules}
use Rattle.survey.proofs.Tabling.{found_begins}
use Rattle.survey.proofs.begins_thread.Goals as goal

pub returns-in-Some-Thread : goal.returns-in-Some-Thread
returns-in-Some-Thread c = found_begins c.args.slab.now c.args.place c.frame_at.result true c.frame_at.ensures (search rules)

pub returns-in_default : goal.returns-in_default
returns-in_default c = found_begins c.args.slab.now c.args.place c.frame_at.result false c.frame_at.ensures (search rules)

pub returns-in_default-2 : goal.returns-in_default-2
returns-in_default-2 c = found_begins c.args.slab.now c.args.place c.frame_at.result false c.frame_at.ensures (search rules)
