use Rattle.runs.proofs.Begun.{next_thread, no_next_thread}
use Rattle.runs.proofs.starting.next_thread.Goals as goal

pub returns-then-end-lt-FRAMES : goal.returns-then-end-lt-FRAMES
returns-then-end-lt-FRAMES c = next_thread c.args.script.now c.args.at c.stretch_at-end.result c.stretch_at-end.ensures

pub returns-else-end-lt-FRAMES : goal.returns-else-end-lt-FRAMES
returns-else-end-lt-FRAMES c = no_next_thread c.args.script.now c.args.at c.stretch_at-end.result c.stretch_at-end.ensures c.if-end-lt-FRAMES.false
