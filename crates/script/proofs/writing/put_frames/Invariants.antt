use Rattle.std.proofs.Common.{◌≤◌, List, length}
use Rattle.codec.specs.Frames.{Frame}
use Rattle.script.specs.Writings.{Slotted}
use Rattle.script.proofs.Texting.{PutSoFar}
use Rattle.script.proofs.writing.put_frames.Given as goal

abbrev pub invariant-loop-i : goal.invariant-loop-i
invariant-loop-i l = (l.n ≤ length l.out) × ((fs : List Frame) → Slotted l.slab l.frames fs → PutSoFar fs l.initial.out l.out l.i l.n)
